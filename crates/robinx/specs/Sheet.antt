-- A byte of a sheet: it counts the slots from 1, and is 0 for a game that has none. Inside the checker slots count from 0.
use Rattle.std.specs.Prelude.{ℕ, suc, Option, None, Some}
use Rattle.robinx.specs.declared.game.Slot.{Slot}

-- the byte of a slot
abbrev pub byte_of : Option Slot → ℕ
byte_of None = 0
byte_of (Some slot) = suc slot.number
