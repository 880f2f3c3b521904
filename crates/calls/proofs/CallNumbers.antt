-- The sentences about the numbers of a call come before 13: one that is true gives its number to the call, and where none is the tables may
-- be tried.
use mathlib.Core.Path.{◌≡◌, refl, sym}
use mathlib.Core.List.{List, [], ◌∷◌}
use mathlib.Core.Bool.{false, ◌||◌}
use Prim.Native.Nat.{ℕ, zero, suc, ◌<◌, ◌≤◌}
use native.Mathlib.Omega.{arith}
use Rattle.std.specs.Prelude.{Err}
use lib.Dec.{eqb, leb, ltb}
use lib.ListN.{get_or}
use borrow.Author.Tests.{leb-false, ltb-false, eqb-false}
use Rattle.std.proofs.lemmas.Bool.{or_parts}
use Rattle.robinx.specs.Season.{decode}
use Rattle.robinx.specs.Refusals.{sentence, first_true, sentence9, sentence10, sentence11, sentence12, sentence13}
use Rattle.robinx.specs.Calls.{Buffers, Outcome, outcome, declined, unless_refused, Call, moved}
use Rattle.robinx.specs.PlainSheet.{plain_fault}
use Rattle.robinx.specs.RefusalNumbers.{number_of}
use Rattle.robinx.specs.declared.Refusal.{Refusal}
use Rattle.robinx.specs.declared.Reply.{Reply}
use Rattle.robinx.specs.declared.Season.{Season}
use Rattle.robinx.proofs.Passed.{or_else, none_true, first-of-both, never-0}
use Rattle.reader.specs.Sizes.{sizes_of}
use Rattle.reader.proofs.Read.{games-read, slots_read}
use Rattle.replies.specs.Reply.{reply_of}
use Rattle.admission.specs.Admission.{after_entry}
use Rattle.calls.specs.CallNumbers.{set_numbers, exchange_numbers}

-- a refusal that comes before all others
pub declined-is : {b : Buffers} {a : Reply} (f : ℕ) (done : Outcome) → (f ≡ 0 → ⊥) → a ≡ declined f → outcome a b ≡ unless_refused f done b
declined-is zero done some e = absurd (some refl)
declined-is (suc f) done some e = rw e

pub refusal_is : {b : Buffers} (r : Refusal) (done : Outcome) → outcome (reply_of (Err r)) b ≡ unless_refused (number_of r) done b
refusal_is r done = declined-is (number_of r) done (never-0 r) refl

first-stands : (f rest : ℕ) → (f ≡ 0 → ⊥) → or_else f rest ≡ f
first-stands zero rest some = absurd (some refl)
first-stands (suc f) rest some = refl

-- sentence 13, for the sheet after a call
abbrev fault13 : List ℕ → Buffers → Call → ℕ
fault13 s b k = first_true (sentence 13 (sentence13 (decode s) (moved b.sheet k)) ∷ [])

-- the others of a call have this number
refused-by : (s : List ℕ) (b : Buffers) (k : Call) {f : ℕ} {a : Reply} → plain_fault (decode s) b.sheet k ≡ or_else f (fault13 s b k)
    → (f ≡ 0 → ⊥) → a ≡ declined f → outcome a b ≡ after_entry (decode s) b k
refused-by s b k {f} split some d = rw (split, first-stands f (fault13 s b k) some) (declined-is f _ some d)

-- A reply that declines a call by any number but 0, where that is the first of its sentences.
module _ (s : List ℕ) {z : Season} (e : z ≡ sizes_of s) (b : Buffers) {f : ℕ} (g : ℕ) where
  module _ (slot : ℕ) (is : f ≡ first_true (set_numbers z g slot)) where
    split-set : plain_fault (decode s) b.sheet (Call.set_slot g slot) ≡ or_else f (fault13 s b (Call.set_slot g slot))
    unfolding plain_fault sentence9 sentence10
    split-set =
        rw (is, games-read s e, slots_read s e) (first-of-both (sentence 9 (leb (decode s).G g) ∷ sentence 10 (ltb (decode s).P slot) ∷ []) _ tt)

    pub set-refused : {a : Reply} → (f ≡ 0 → ⊥) → a ≡ declined f → outcome a b ≡ after_entry (decode s) b (Call.set_slot g slot)
    set-refused = refused-by s b (Call.set_slot g slot) split-set

  module _ (h : ℕ) (is : f ≡ first_true (exchange_numbers z b.sheet g h)) where
    split-exchange : plain_fault (decode s) b.sheet (Call.exchange g h) ≡ or_else f (fault13 s b (Call.exchange g h))
    unfolding plain_fault sentence9
    split-exchange =
        rw (is, games-read s e)
        (first-of-both
        (sentence 9 (leb (decode s).G g || leb (decode s).G h) ∷ sentence 11 (sentence11 g h) ∷ sentence 12 (sentence12 b.sheet g h) ∷ [])
        _
        tt)

    pub exchange-refused : {a : Reply} → (f ≡ 0 → ⊥) → a ≡ declined f → outcome a b ≡ after_entry (decode s) b (Call.exchange g h)
    exchange-refused = refused-by s b (Call.exchange g h) split-exchange

-- .. the reply of a `Refusal`, and a call that passes
module _ (s : List ℕ) {z : Season} (e : z ≡ sizes_of s) (b : Buffers) (g : ℕ) where
  pub set-refused-by : (slot : ℕ) (r : Refusal) → number_of r ≡ first_true (set_numbers z g slot)
      → outcome (reply_of (Err r)) b ≡ after_entry (decode s) b (Call.set_slot g slot)
  set-refused-by slot r is = set-refused s e b g slot is (never-0 r) refl

  pub set-passes : (slot : ℕ) → 0 ≡ first_true (set_numbers z g slot) → (g < (decode s).G) × (slot ≤ (decode s).P)
  set-passes slot is =
      let c = none_true (set_numbers z g slot) (sym is) in
      (omega (arith, leb-false z.games g c.0, games-read s e), omega (arith, ltb-false z.slots slot c.1.0, slots_read s e))

  pub exchange-refused-by : (h : ℕ) (r : Refusal) → number_of r ≡ first_true (exchange_numbers z b.sheet g h)
      → outcome (reply_of (Err r)) b ≡ after_entry (decode s) b (Call.exchange g h)
  exchange-refused-by h r is = exchange-refused s e b g h is (never-0 r) refl

  pub exchange-passes : (h : ℕ) → 0 ≡ first_true (exchange_numbers z b.sheet g h)
      → (g < (decode s).G) × (h < (decode s).G) × (g ≡ h → ⊥) × (eqb (get_or b.sheet g 0) 0 || eqb (get_or b.sheet h 0) 0 ≡ false)
  unfolding sentence11 sentence12
  exchange-passes h is =
      let c = none_true (exchange_numbers z b.sheet g h) (sym is) in
      let o = or_parts (leb z.games g) (leb z.games h) c.0 in
      let n = games-read s e in
      (omega (arith, leb-false z.games g o.0, n), omega (arith, leb-false z.games h o.1, n), eqb-false g h c.1.0, c.1.1.0)
