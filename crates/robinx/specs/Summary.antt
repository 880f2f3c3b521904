-- The team summary, which no call is lent yet: for each of 32 teams the slots of its home games, then for each those of its away games.
use Rattle.std.specs.Prelude.{List, ◌++◌, ℕ, ◌*◌, ◌^◌, ltb}
use Rattle.robinx.specs.Sums.{sum_to, list_to, only}
use Rattle.robinx.specs.Season.{Instance, most_teams}
use Rattle.robinx.specs.Timetable.{X, home_side, away_side, plays}
use Rattle.robinx.specs.Books.{timetable}

-- how many words it has
abbrev pub summary_words : ℕ
summary_words = 2 * most_teams

-- the slots in which team t plays on the side d: bit k for slot k, counted from 0; none for a team that is not below n
unfoldable pub slots_on : Instance → X → ℕ → ℕ → ℕ
slots_on m x d t = only (ltb t m.n) (sum_to (λ k. only (plays m.n x d t k) (2 ^ k)) m.P)

-- word t is that of team t at home, word 32 + t that of team t away
abbrev pub team_words : (ℕ → ℕ) → (ℕ → ℕ) → List ℕ
team_words home away = list_to home most_teams ++ list_to away most_teams

unfoldable pub summary : Instance → List ℕ → List ℕ
summary m sheet = team_words (slots_on m (timetable m sheet) home_side) (slots_on m (timetable m sheet) away_side)
