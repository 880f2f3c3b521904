-- The sizes that a season's bytes give, and the test of their ranges over the numbers.
use Rattle.std.specs.Prelude.{List, Bool, ◌&&◌, not, ◌≡◌, ℕ, ◌+◌, ◌*◌, leb, length}
use Rattle.robinx.specs.Season.{teams, slots, games, constraints, most_teams, most_slots, most_games, most_constraints}
use Rattle.robinx.specs.Rules.{fits}
use Rattle.robinx.specs.declared.Season.{Season}

unfoldable pub sizes_of : List ℕ → Season
sizes_of s = record { teams = teams s; slots = slots s; games = games s; constraints = constraints s }

-- z has the season's sizes, and the season has the length that they ask
pub record Measured (s : List ℕ) (z : Season) : Type 0 where
  pub sizes : z ≡ sizes_of s
  pub whole : length s ≡ 6 + 2 * z.games + 24 * z.constraints

-- sentence 2, of the sizes
unfoldable pub out_of_range : Season → Bool
out_of_range z =
    not
    (fits 2 most_teams z.teams
    && fits 1 most_slots z.slots
    && leb z.games most_games
    && leb z.constraints most_constraints)
