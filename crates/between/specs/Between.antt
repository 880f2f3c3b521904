-- Games between two groups, by the team at whose venue they are.
use Rattle.std.specs.Prelude.{List, [], ◌∷◌, ◌&&◌, ℕ, ◌<◌, get_or}
use Rattle.std.specs.Int.Bits.{bit_or}
use Rattle.robinx.specs.Sums.{sum_to, only}
use Rattle.robinx.specs.Groups.{has}
use Rattle.robinx.specs.Timetable.{X, between, games_between}
use Rattle.robinx.specs.Deviations.{over, outside}
use Rattle.robinx.specs.Season.{slots_of}
use Rattle.robinx.specs.declared.Constraint.{Constraint}
use Rattle.tables.specs.Tables.{x_of}
use Rattle.opponents.specs.Games.{MaskOf}
use Rattle.opponents.specs.Sides.{code_of}
use Rattle.between.specs.declared.Meetings.{Meetings}

-- what a definition over teams, timetable, sides and two groups says of some meetings
abbrev pub of_meetings : {A : Type 0} → (ℕ → X → ℕ → ℕ → ℕ → A) → Meetings → A
of_meetings f m = f m.check.now.sizes.teams (x_of m.check.now.tables.now.meets) (code_of m.sides) m.check.now.constraint.t1 m.check.now.constraint.t2

-- the teams that team i hosts in a game that is counted
abbrev pub guests : ℕ → ℕ → ℕ → ℕ → ℕ
guests d T1 T2 i = bit_or (only (has d 0 && has T1 i) T2) (only (has d 1 && has T2 i) T1)

-- the counted games of team i at home in slot k
unfoldable pub hosts : ℕ → X → ℕ → ℕ → ℕ → ℕ → ℕ → ℕ
hosts n x d T1 T2 i k = sum_to (λ j. only (between d T1 T2 i j) (x i j k)) n

-- one figure: how far the counted games in S are outside kmin .. kmax
abbrev pub one_figure : ℕ → ℕ → Constraint → X → ℕ → List ℕ
one_figure n P c x d = outside c.kmin c.kmax (over P (slots_of c) (λ k. games_between n x d c.t1 c.t2 k)) ∷ []

-- word i of the table is the mask of f i, for the first m
pub record MasksOf (f : ℕ → ℕ → ℕ) (words : List ℕ) (m : ℕ) : Type 0 where
  pub mask : (i : ℕ) → i < m → MaskOf (f i) (get_or words i 0)
