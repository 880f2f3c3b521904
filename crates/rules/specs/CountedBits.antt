-- The rules and the number of deviations with each group's size counted as its set bits. They are those of robinx where the groups
-- name only teams below n and slots up to P, which the rules ask.
use Rattle.std.specs.Prelude.{Bool, ◌&&◌, ◌||◌, not, cond, ℕ, ◌-◌, ◌^◌, leb}
use Rattle.std.specs.Int.Count.{ones}
use Rattle.robinx.specs.Season.{most_byte, slots_of}
use Rattle.robinx.specs.Timetable.{first_modes}
use Rattle.robinx.specs.Rules.{fits, holds, function_fits}
use Rattle.robinx.specs.declared.Constraint.{Constraint}
use Rattle.robinx.specs.declared.Field.{Field}
use Rattle.robinx.specs.declared.Shape.{Shape}
use Rattle.robinx.specs.declared.Shape.TheVariants.{Nothing, One, EachTeam, EachPair, OneOrEachSlot}
use Rattle.groups.specs.Pairs.{pairs_in}

-- The rules in four parts: the head's plain bytes, kmin, kmax and w, the groups' members, the groups' sizes.
unfoldable pub head_keeps : ℕ → ℕ → Bool → Constraint → Bool
head_keeps first last squares c =
    fits first last c.mode && leb c.hard 1 && function_fits squares c.function && fits 1 most_byte c.weight

unfoldable pub counts_keep : Field → Field → Field → Constraint → Bool
counts_keep kmin kmax w c =
    holds kmin c.kmax most_byte c.kmin && holds kmax c.kmax most_byte c.kmax && holds w c.kmax most_byte c.w

unfoldable pub groups_keep : Field → Field → ℕ → ℕ → Constraint → Bool
groups_keep t2 s n P c =
    fits 1 (2 ^ n - 1) c.t1 && holds t2 c.kmax (2 ^ n - 1) c.t2 && holds s c.kmax (2 ^ P - 1) (slots_of c)

unfoldable pub several_keep : Bool → ℕ → ℕ → Bool
several_keep several t1 t2 = not several || (leb 2 (ones t1) || leb 2 (ones t2))

unfoldable pub sizes_keep : ℕ → Bool → Constraint → Bool
sizes_keep fewest several c = leb fewest (ones c.t1) && several_keep several c.t1 c.t2

-- the number of deviations
unfoldable pub ones_in : Shape → Constraint → ℕ
ones_in Nothing c = 0
ones_in One c = 1
ones_in EachTeam c = ones c.t1
ones_in EachPair c = pairs_in c.t1
ones_in OneOrEachSlot c = cond (first_modes c.mode) 1 (ones (slots_of c))
