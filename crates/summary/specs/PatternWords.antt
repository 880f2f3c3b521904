-- What is written into a summary from the patterns of all teams.
use Rattle.std.specs.Prelude.{List, ℕ, ◌+◌, get_or, set}
use Rattle.robinx.specs.Season.{most_teams}
use Rattle.robinx.specs.Summary.{team_words}
use Rattle.tables.specs.declared.Patterns.{Patterns}

-- the patterns as words, in the order of a summary
abbrev pub words_of : Patterns → List ℕ
words_of p = team_words (λ t. get_or p.home t 0) (λ t. get_or p.away t 0)

-- the summary with the two words of team t
abbrev pub with_team : Patterns → ℕ → List ℕ → List ℕ
with_team p t l = set (set l t (get_or p.home t 0)) (most_teams + t) (get_or p.away t 0)
