-- The sentences about the numbers of a set and of an exchange that need no tables (FORMAT 6), by the sizes that were read: all but 13.
use Rattle.std.specs.Prelude.{List, [], ◌∷◌, ◌||◌, ℕ, leb, ltb}
use Rattle.robinx.specs.Refusals.{Sentence, sentence, sentence11, sentence12}
use Rattle.robinx.specs.declared.Season.{Season}

abbrev pub set_numbers : Season → ℕ → ℕ → List Sentence
set_numbers z g s = sentence 9 (leb z.games g) ∷ sentence 10 (ltb z.slots s) ∷ []

abbrev pub exchange_numbers : Season → List ℕ → ℕ → ℕ → List Sentence
exchange_numbers z sheet g h =
    sentence 9 (leb z.games g || leb z.games h)
    ∷ sentence 11 (sentence11 g h)
    ∷ sentence 12 (sentence12 sheet g h)
    ∷ []
