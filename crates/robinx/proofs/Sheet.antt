-- A byte of a sheet is 0 where it stands for no slot.
use mathlib.Core.Path.{◌≡◌, refl, ap, ◌∙◌}
use mathlib.Core.Bool.{Bool, true, false, not}
use Prim.Native.Nat.{ℕ, suc, ◌≤◌}
use mir.Val.{bool_byte}
use native.Mathlib.Omega.{arith}
use lib.Dec.{eqb}
use borrow.Author.Tests.{ne_eqb}
use Rattle.std.specs.Prelude.{Option, None, Some, is_some}
use Rattle.robinx.specs.Sums.{only}
use Rattle.robinx.specs.Season.{most_slots}
use Rattle.robinx.specs.declared.game.Slot.{Slot}
use Rattle.robinx.specs.Sheet.{byte_of}

pub byte_low : (slot : Option Slot) → byte_of slot ≤ most_slots
byte_low None = omega arith
byte_low (Some s) = omega (arith, s.bound)

pub none_by_byte : (slot : Option Slot) (none : Bool) {byte : ℕ} → is_some slot ≡ not none → byte_of slot ≡ byte → none ≡ eqb byte 0
none_by_byte slot none test same = rw (← same) (go slot none test)
  where
    go : (slot : Option Slot) (none : Bool) → is_some slot ≡ not none → none ≡ eqb (byte_of slot) 0
    go None true e = refl
    go (Some s) false e = rw (ne_eqb (suc s.number) 0 (λ h. omega arith)) refl
    go None false e = cc
    go (Some s) true e = cc

-- .. so 1 for such a byte is the test of the slot
pub counts-none : (slot : Option Slot) (none : Bool) {n byte : ℕ} → is_some slot ≡ not none → n ≡ bool_byte none → byte_of slot ≡ byte
    → n ≡ only (eqb byte 0) 1
counts-none slot none test count same = count ∙ one none ∙ ap (λ (b : Bool). only b 1) (none_by_byte slot none test same)
  where
    one : (b : Bool) → bool_byte b ≡ only b 1
    one true = refl
    one false = refl
