-- The figures of a check, by a definition of deviations, and the room that they take.
use Rattle.std.specs.Prelude.{◌≡◌, List, ℕ, length}
use Rattle.robinx.specs.Timetable.{X}
use Rattle.robinx.specs.Deviations.{entries}
use Rattle.robinx.specs.declared.Constraint.{Constraint}
use Rattle.tables.specs.Tables.{x_of}
use Rattle.opponents.specs.declared.check.Check.{Check}

-- what a definition over teams, slots, constraint and timetable says of a check
abbrev pub of_check : {A : Type 0} → (ℕ → ℕ → Constraint → X → A) → Check → A
of_check f k = f k.sizes.teams k.sizes.slots k.constraint (x_of k.tables.now.meets)

-- a place for each deviation
abbrev pub HasRoom : Check → List ℕ → Type 0
HasRoom k out = length out ≡ entries k.sizes.teams k.sizes.slots k.constraint
