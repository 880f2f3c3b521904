-- What a walk over a season's constraints is given.
use Rattle.std.specs.Prelude.{Bool, true, ◌||◌, ℕ}
use Rattle.robinx.specs.Deviations.{deviations}
use Rattle.robinx.specs.Penalty.{penalty}
use Rattle.robinx.specs.declared.Constraint.{Constraint}
use Rattle.opponents.specs.declared.check.Check.{Check}
use Rattle.opponents.specs.Figures.{of_check}
use Rattle.touch.specs.Touched.{touched_by_move, touched_too}
use Rattle.walk.specs.declared.Touch.{Touch}
use Rattle.walk.specs.declared.Touch.TheVariants.{Everything, By}

-- what a check's constraint pays
abbrev pub check_penalty : Check → ℕ
check_penalty k = penalty k.constraint (of_check deviations k)

-- which constraints are worked out
abbrev pub is_touched : Touch → Constraint → Bool
is_touched Everything c = true
is_touched (By m) c = touched_by_move m.first c || touched_too m.second c
