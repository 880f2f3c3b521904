-- A move touches a constraint where its teams are such as the row of the kind asks, and one of its slots is.
use mathlib.Core.Path.{◌≡◌, refl, sym, ap, ap₂, ◌∙◌}
use mathlib.Core.Bool.{Bool, true, false, ◌&&◌, ◌||◌, not, and-false}
use Prim.Native.Nat.{ℕ, zero, suc}
use Rattle.std.proofs.Common.{Option, None, Some}
use lib.Dec.{eqb}
use Rattle.robinx.specs.Season.{slots_of}
use Rattle.robinx.specs.Sheet.{byte_of}
use Rattle.robinx.specs.Kinds.{form_at}
use Rattle.robinx.specs.Touch.{teams_touch, slot_touches, scope_of, hits, touches}
use Rattle.robinx.specs.declared.Constraint.{Constraint}
use Rattle.robinx.specs.declared.Form.{Form}
use Rattle.robinx.specs.declared.game.Slot.{Slot}
use Rattle.robinx.specs.declared.TouchTeams.{TouchTeams}
use Rattle.robinx.specs.declared.TouchTeams.TheVariants.{Nobody, OneInT1, Across, HomeAndAway, BothInT1}
use Rattle.touch.specs.Touched.{at_slot, by_row, at_byte, row_of_bytes, by_row_too, AsksForT1, PassedOver, Named, NamedToo, touched_by_move, touched_too}
use Rattle.touch.specs.declared.moves.Move.{Move}

-- a game in a slot of the sheet is read where both its teams and the slot are asked for
module _ (c : Constraint) (i j : ℕ) where
  abbrev teams : Bool
  teams = teams_touch (form_at c.kind).teams c.t1 c.t2 i j

  abbrev slot : ℕ → Bool
  slot = slot_touches (form_at c.kind).slots (slots_of c)

  hits-is : (b : ℕ) → hits c i j b ≡ teams && at_byte slot b
  unfolding scope_of at_byte
  hits-is zero = sym (and-false teams)
  hits-is (suc k) = refl

shared : (t a b : Bool) → (t && a) || (t && b) ≡ t && (a || b)
shared true a b = refl
shared false a b = refl

-- of any four numbers
pub by_bytes : (c : Constraint) (home away from to : ℕ) {f : Form} → f ≡ form_at c.kind
    → row_of_bytes f c home away from to ≡ touches c home away from to
unfolding row_of_bytes touches
by_bytes c i j from to e =
    ap (λ (f : Form). row_of_bytes f c i j from to) e
    ∙ ap (λ (t : Bool). not (eqb from to) && t)
    (sym (shared (teams c i j) _ _) ∙ sym (ap₂ ◌||◌ (hits-is c i j from) (hits-is c i j to)))

-- .. so of a move
at_slot-is : (p : ℕ → Bool) (b : Option Slot) → at_slot p b ≡ at_byte p (byte_of b)
unfolding at_slot at_byte
at_slot-is p None = refl
at_slot-is p (Some s) = refl

pub by_row_lem : (c : Constraint) (v : Move) {f : Form} → f ≡ form_at c.kind → by_row f c v ≡ touched_by_move v c
unfolding by_row row_of_bytes
by_row_lem c v {f} e =
    let p = slot_touches f.slots (slots_of c) in
    rw (at_slot-is p v.from, at_slot-is p v.to) (by_bytes c v.game.home v.game.away (byte_of v.from) (byte_of v.to) e)

-- a move whose teams are in a group that is passed over
pub not-touched : {teams : ℕ} (c : Constraint) (v : Move) {f : Form} → f ≡ form_at c.kind → PassedOver f.teams c.t1 teams → Named teams v
    → touched_by_move v c ≡ false
unfolding by_row
not-touched c v {f} e none named =
    sym (by_row_lem c v e)
    ∙ rw (none c.t2 v.game.home v.game.away named.home named.away) (and-false (not (eqb (byte_of v.from) (byte_of v.to))))

-- a game that a row asks for has a team of T1, in all rows of today
pub outside : (asked : TouchTeams) → AsksForT1 asked
unfolding teams_touch
outside Nobody T1 T2 i j h g = refl
outside OneInT1 T1 T2 i j h g = rw (h, g)
outside Across T1 T2 i j h g = rw (h, g)
outside HomeAndAway T1 T2 i j h g = rw h
outside BothInT1 T1 T2 i j h g = rw h

-- .. and the second one, if there is one
pub by_row_too_lem : (c : Constraint) (w : Option Move) {f : Form} → f ≡ form_at c.kind → by_row_too f c w ≡ touched_too w c
by_row_too_lem c None e = refl
by_row_too_lem c (Some v) e = by_row_lem c v e

pub not-touched-too : (named-teams : ℕ) (c : Constraint) (w : Option Move) {f : Form} → f ≡ form_at c.kind
    → PassedOver f.teams c.t1 named-teams → NamedToo named-teams w → touched_too w c ≡ false
not-touched-too _ c None e none named = refl
not-touched-too _ c (Some v) e none named = not-touched c v e none named
