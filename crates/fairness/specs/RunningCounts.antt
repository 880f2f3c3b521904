-- Running counts of games, and how far two of them are apart.
use Rattle.std.specs.Prelude.{List, [], ◌≡◌, true, ℕ, suc, ◌-◌, ◌<◌, slice_index_or}
use Rattle.robinx.specs.Season.{most_slots}
use Rattle.robinx.specs.Sums.{list_to}
use Rattle.robinx.specs.Groups.{has}
use Rattle.robinx.specs.Timetable.{X, home_side, away_side, games_up_to}
use Rattle.robinx.specs.declared.Constraint.{Constraint}
use Rattle.rows.specs.Rows.{farthest_to}
use Rattle.opponents.specs.Figures.{of_check}
use Rattle.opponents.specs.declared.check.Check.{Check}

-- games of the sides d that team t has against T1 up to slot k
abbrev pub running : ℕ → ℕ → Constraint → X → ℕ → ℕ → ℕ → ℕ
running n P c x d t k = games_up_to n x d c.t1 t (suc k)

-- row t of the table holds them, where t is in T1
abbrev pub CountedAt : Check → ℕ → List (List ℕ) → ℕ → Type 0
CountedAt k d rows t = has k.constraint.t1 t ≡ true → slice_index_or rows t [] ≡ list_to (of_check running k d t) most_slots

-- .. for each t below m
pub record Counted (k : Check) (d : ℕ) (rows : List (List ℕ)) (m : ℕ) : Type 0 where
  pub row : (t : ℕ) → t < m → CountedAt k d rows t

-- the largest distance of f and g at the slots that the row e marks, less kmax
abbrev pub apart : List ℕ → ℕ → (ℕ → ℕ) → (ℕ → ℕ) → ℕ
apart e kmax f g = farthest_to e f g most_slots - kmax

-- .. of a team's home and away games
abbrev pub sides_apart : ℕ → ℕ → Constraint → X → List ℕ → ℕ → ℕ
sides_apart n P c x e t = apart e c.kmax (running n P c x home_side t) (running n P c x away_side t)
