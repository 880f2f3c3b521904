-- What touches a constraint, by the row of its kind and a move.
use Rattle.std.specs.Prelude.{◌≡◌, Bool, true, false, ◌&&◌, ◌||◌, not, ℕ, zero, suc, eqb, Option, None, Some, IfSome}
use Rattle.robinx.specs.Season.{slots_of}
use Rattle.robinx.specs.Groups.{has}
use Rattle.robinx.specs.Sheet.{byte_of}
use Rattle.robinx.specs.Touch.{teams_touch, slot_touches, touches}
use Rattle.robinx.specs.declared.Constraint.{Constraint}
use Rattle.robinx.specs.declared.Form.{Form}
use Rattle.robinx.specs.declared.game.Slot.{Slot}
use Rattle.robinx.specs.declared.TouchTeams.{TouchTeams}
use Rattle.touch.specs.declared.moves.Move.{Move}

-- a test of slots at the slot that a game has; where it has none the test fails
unfoldable pub at_slot : (ℕ → Bool) → Option Slot → Bool
at_slot p None = false
at_slot p (Some slot) = p slot.number

-- the move of game (i, j) from the slot of byte a to that of byte b
pub record MoveOf (i j a b : ℕ) (v : Move) : Type 0 where
  pub home : v.game.home ≡ i
  pub away : v.game.away ≡ j
  pub from : byte_of v.from ≡ a
  pub to : byte_of v.to ≡ b

-- the move changes its game's slot, its teams are such as the row asks, and so is one of its slots
unfoldable pub by_row : Form → Constraint → Move → Bool
by_row f c v =
    not (eqb (byte_of v.from) (byte_of v.to))
    && (teams_touch f.teams c.t1 c.t2 v.game.home v.game.away
    && (at_slot (slot_touches f.slots (slots_of c)) v.from || at_slot (slot_touches f.slots (slots_of c)) v.to))

-- the same of four numbers, the teams and the slots as bytes: these count from 1, and 0 is none
unfoldable pub at_byte : (ℕ → Bool) → ℕ → Bool
at_byte p zero = false
at_byte p (suc k) = p k

unfoldable pub row_of_bytes : Form → Constraint → ℕ → ℕ → ℕ → ℕ → Bool
row_of_bytes f c home away from to =
    not (eqb from to)
    && (teams_touch f.teams c.t1 c.t2 home away
    && (at_byte (slot_touches f.slots (slots_of c)) from || at_byte (slot_touches f.slots (slots_of c)) to))

-- .. the second move, if there is one
abbrev pub by_row_too : Form → Constraint → Option Move → Bool
by_row_too f c None = false
by_row_too f c (Some v) = by_row f c v

-- every game that the row asks for has a team of T1
abbrev pub AsksForT1 : TouchTeams → Type 0
AsksForT1 asked = (T1 T2 i j : ℕ) → has T1 i ≡ false → has T1 j ≡ false → teams_touch asked T1 T2 i j ≡ false

-- no game of two teams of the group is such as the row asks
abbrev pub PassedOver : TouchTeams → ℕ → ℕ → Type 0
PassedOver asked T1 teams = (T2 i j : ℕ) → has teams i ≡ true → has teams j ≡ true → teams_touch asked T1 T2 i j ≡ false

-- the group has both teams of the move
pub record Named (teams : ℕ) (v : Move) : Type 0 where
  pub home : has teams v.game.home ≡ true
  pub away : has teams v.game.away ≡ true

abbrev pub NamedToo : ℕ → Option Move → Type 0
NamedToo teams second = IfSome second (Named teams)

-- robinx's test of a move, and of a second one, if there is one
abbrev pub touched_by_move : Move → Constraint → Bool
touched_by_move v c = touches c v.game.home v.game.away (byte_of v.from) (byte_of v.to)

abbrev pub touched_too : Option Move → Constraint → Bool
touched_too None c = false
touched_too (Some v) c = touched_by_move v c
