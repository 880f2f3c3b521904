-- The games of a season alone, and a table of how often two teams have met.
use Rattle.std.specs.Prelude.{◌≡◌, List, [], ◌∷◌, Bool, Result, IfOk, ◌||◌, ℕ, ◌+◌, min, max, eqb, leb, length, get_or, set}
use Rattle.robinx.specs.Season.{Instance, constraint_from, most_meetings}
use Rattle.robinx.specs.Refusals.{sentence, first_true}
use Rattle.robinx.specs.RefusalNumbers.{fault_of}
use Rattle.robinx.specs.declared.Refusal.{Refusal}

-- n teams, these games, no constraint
abbrev pub of_games : ℕ → List ℕ → List ℕ → Instance
of_games n home away = record {
  n = n;
  P = 0;
  G = length home;
  C = 0;
  home = home;
  away = away;
  constraint = λ c. constraint_from [] 0 0;
}

-- the row of two teams, and how often they have met
abbrev pub met_row : List (List ℕ) → ℕ → ℕ → List ℕ
met_row meetings i j = get_or meetings (min i j) []

abbrev pub met : List (List ℕ) → ℕ → ℕ → ℕ
met meetings i j = get_or (met_row meetings i j) (max i j) 0

-- .. with one more game of theirs
abbrev pub met_again : List (List ℕ) → ℕ → ℕ → List (List ℕ)
met_again meetings i j = set meetings (min i j) (set (met_row meetings i j) (max i j) (met meetings i j + 1))

-- a game of i and j cannot be, after the meetings that the table has
unfoldable pub refused : List (List ℕ) → ℕ → ℕ → ℕ → Bool
refused meetings i j n = leb n i || leb n j || eqb i j || leb most_meetings (met meetings i j)

-- What counting a game answers and leaves: number 4 where it cannot be, else the table with it.
pub record CountsGame (i j n : ℕ) (old new : List (List ℕ)) (r : Result (Unit {0}) Refusal) : Type 0 where
  pub fault : fault_of r ≡ first_true (sentence 4 (refused old i j n) ∷ [])
  pub counted : IfOk r (λ x. new ≡ met_again old i j)
