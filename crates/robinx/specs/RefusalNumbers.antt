-- The number of each refusal: that of its sentence (FORMAT 6).
use Rattle.std.specs.Prelude.{ℕ, Result, Ok, Err}
use Rattle.robinx.specs.declared.Refusal.{Refusal}
use Rattle.robinx.specs.declared.Refusal.TheVariants.{ShortSeason, SizeOutOfRange, SeasonLength, BadGame, BadConstraint, TooManyDeviations}
use Rattle.robinx.specs.declared.Refusal.TheVariants.{BufferLength, BadSheet, NoSuchGame, NoSuchSlot, SameGame, UnplacedGame, TeamBusy}

abbrev pub number_of : Refusal → ℕ
number_of ShortSeason = 1
number_of SizeOutOfRange = 2
number_of SeasonLength = 3
number_of BadGame = 4
number_of BadConstraint = 5
number_of TooManyDeviations = 6
number_of BufferLength = 7
number_of BadSheet = 8
number_of NoSuchGame = 9
number_of NoSuchSlot = 10
number_of SameGame = 11
number_of UnplacedGame = 12
number_of TeamBusy = 13

-- the number of the refusal, or 0 for an answer
abbrev pub fault_of : {A : Type 0} → Result A Refusal → ℕ
fault_of (Ok a) = 0
fault_of (Err r) = number_of r
