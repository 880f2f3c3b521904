-- The sides on which games count, by their numbers: the sides that a mode names.
use Rattle.std.specs.Prelude.{ℕ}
use Rattle.robinx.specs.Timetable.{home_side, away_side, any_side}
use Rattle.opponents.specs.declared.measure.Sides.{Sides}
use Rattle.opponents.specs.declared.measure.Sides.TheVariants.{Home, Away, Both}

abbrev pub code_of : Sides → ℕ
code_of Home = home_side
code_of Away = away_side
code_of Both = any_side
