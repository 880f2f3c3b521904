-- What an accepted call tells of its numbers, and that the sheet it leaves is one that opens.
use mathlib.Core.Path.{◌≡◌, sym, ap, ◌∙◌}
use mathlib.Core.List.{List}
use mathlib.Core.Bool.{false}
use Prim.Native.Nat.{ℕ, ◌<◌, ◌≤◌}
use native.Mathlib.Omega.{arith}
use native.Mathlib.Decide.{ℕ_discrete}
use lib.Dec.{ltb}
use lib.ListN.{length, get_or, set, length-set}
use lib.Seq.{get_or-set_same, get_or-set_other}
use borrow.Author.Tests.{leb-false, ltb-false, eqb-false, le-ltb}
use Rattle.std.proofs.lemmas.Bool.{or_parts}
use Rattle.robinx.specs.Sums.{any_to}
use Rattle.robinx.specs.Season.{Instance}
use Rattle.robinx.specs.Timetable.{clash}
use Rattle.robinx.specs.Refusals.{sentence8, sentence9, sentence10, sentence11, sentence13}
use Rattle.robinx.specs.Calls.{Call, moved, of_call}
use Rattle.robinx.specs.PlainSheet.{plain_fault}
use Rattle.robinx.proofs.Sums.{any_none, none_any}
use Rattle.robinx.proofs.Change.{Good}
use Rattle.robinx.proofs.Passed.{none_true}

pub length_moved : (sheet : List ℕ) (k : Call) → length (moved sheet k) ≡ length sheet
unfolding moved
length_moved sheet (Call.set_slot g s) = length-set sheet g s
length_moved sheet (Call.exchange g h) = length-set (set sheet g (get_or sheet h 0)) h (get_or sheet g 0) ∙ length-set sheet g (get_or sheet h 0)

-- every slot of a sheet of G games is at most P
abbrev pub Low : Instance → List ℕ → Type 0
Low m sheet = (a : ℕ) → a < m.G → get_or sheet a 0 ≤ m.P

low-set : (m : Instance) (sheet : List ℕ) (g s : ℕ) → length sheet ≡ m.G → Low m sheet → s ≤ m.P → Low m (set sheet g s)
low-set m sheet g s long low h a l = go (ℕ_discrete a g)
  where
    go : Dec (a ≡ g) → get_or (set sheet g s) a 0 ≤ m.P
    go (yes e) = omega (arith, ap (λ (v : ℕ). get_or (set sheet g s) v 0) e, get_or-set_same sheet g s 0 (omega arith))
    go (no e) = omega (arith, get_or-set_other sheet g a s 0 e, low a l)

module _ (m : Instance) (sheet : List ℕ) (long : length sheet ≡ m.G) (ok : sentence8 m sheet ≡ false) where
  pub low : Low m sheet
  unfolding sentence8
  low a l =
      ltb-false m.P (get_or sheet a 0)
      (any_none (λ g. ltb m.P (get_or sheet g 0)) m.G (or_parts (any_to (λ g. ltb m.P (get_or sheet g 0)) m.G) _ ok).0 a l)

  pub no-clash : clash m.home m.away sheet ≡ false
  unfolding sentence8
  no-clash = (or_parts (any_to (λ g. ltb m.P (get_or sheet g 0)) m.G) _ ok).1

  pub good : (k : Call) → plain_fault m sheet k ≡ 0 → Good sheet k
  unfolding plain_fault sentence9 sentence11
  good (Call.set_slot g s) h =
      let c = none_true (of_call m sheet (Call.set_slot g s)) h in
      omega (arith, leb-false m.G g c.0)
  good (Call.exchange g h) e =
      let c = none_true (of_call m sheet (Call.exchange g h)) e in
      let o = or_parts (sentence9 m g) (sentence9 m h) c.0 in
      let d = eqb-false g h c.1.0 in
      (omega (arith, leb-false m.G g o.0), omega (arith, leb-false m.G h o.1), λ e. d (sym e))

  clear : (after : List ℕ) → Low m after → clash m.home m.away after ≡ false → sentence8 m after ≡ false
  unfolding sentence8
  clear after l c = rw (none_any (λ g. ltb m.P (get_or after g 0)) m.G (λ a la. le-ltb m.P (get_or after a 0) (l a la)), c)

  -- sentence 8 is not true of the sheet after an accepted call
  pub opens-again : (k : Call) → plain_fault m sheet k ≡ 0 → sentence8 m (moved sheet k) ≡ false
  unfolding plain_fault sentence9 sentence10 sentence13 moved
  opens-again (Call.set_slot g s) h =
      let c = none_true (of_call m sheet (Call.set_slot g s)) h in
      clear (set sheet g s) (low-set m sheet g s long low (ltb-false m.P s c.1.0)) c.1.1.0
  opens-again (Call.exchange g h) e =
      let c = none_true (of_call m sheet (Call.exchange g h)) e in
      let o = or_parts (sentence9 m g) (sentence9 m h) c.0 in
      let a : ℕ = get_or sheet g 0 in
      let b : ℕ = get_or sheet h 0 in
      clear
      (set (set sheet g b) h a)
      (low-set m (set sheet g b) h a (length-set sheet g b ∙ long)
      (low-set m sheet g b long low (low h (leb-false m.G h o.1)))
      (low g (leb-false m.G g o.0)))
      c.1.1.1.0
