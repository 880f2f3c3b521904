-- A mask with a slot, and without it.
use Rattle.std.proofs.Common.{◌≡◌, ℕ, ◌+◌, ◌-◌, ◌%◌, ◌^◌, ◌<◌, min, max, Bool, true, false, eqb}
use Rattle.std.proofs.Common.{sym, refl, ap, ◌∙◌, ap₂, arith, eq-eqb, ne_eqb, eqb-true}
use Rattle.std.specs.Int.{Width, bit_not}
use Rattle.std.proofs.lemmas.Nat.Bits.{bit_at_not, same_from_bits_below, bit_at_and, bit_at_or, bit_at_xor}
use mir.Val.{bits}
use lib.Bits.{bit_and, bit_or, bit_xor, and_le_l, or_lt, xor_lt}
use lib.Pow.{pow-lt}
use borrow.Author.Tests.{eqb-false}
use Rattle.robinx.specs.Sums.{only}
use Rattle.robinx.specs.Groups.{bit}
use Rattle.masks.specs.Masks.{joined, without}
use Rattle.robinx.proofs.Bits.{at_bits, one_bit}

-- `m & !s`, however wide, as two other operations
pub and-not : (w : Width) (m s : ℕ) → m < 2 ^ bits w → s < 2 ^ bits w → bit_and m (bit_not w s) ≡ bit_xor (bit_or m s) s
and-not w m s h g =
    same_from_bits_below (bits w) _ _ (omega (arith, and_le_l m (bit_not w s))) (xor_lt (bits w) _ s (or_lt (bits w) m s h g) g)
    (λ i l.
    bit_at_and m (bit_not w s) i ∙ ap (min (bit m i)) (bit_at_not w s i g l)
    ∙ at_bits (λ x y. min x (1 - y) ≡ (max x y + y) % 2) refl refl refl refl m s i
    ∙ sym (bit_at_xor (bit_or m s) s i ∙ ap (λ (z : ℕ). (z + bit s i) % 2) (bit_at_or m s i)))

module _ (m k : ℕ) where
  joined-max : (a : ℕ) → bit (joined m k) a ≡ max (bit m a) (only (eqb a k) 1)
  joined-max a = bit_at_or m (2 ^ k) a ∙ ap (max (bit m a)) (one_bit k a)

  without-differ : (a : ℕ) → bit (without m k) a ≡ (max (bit m a) (only (eqb a k) 1) + only (eqb a k) 1) % 2
  without-differ a = bit_at_xor (joined m k) (2 ^ k) a ∙ ap₂ (λ (x y : ℕ). (x + y) % 2) (joined-max a) (one_bit k a)

  -- at the slot
  joined-here : bit (joined m k) k ≡ 1
  joined-here = joined-max k ∙ rw (eq-eqb k k refl) (omega arith)

  pub without-here : bit (without m k) k ≡ 0
  without-here = without-differ k ∙ rw (eq-eqb k k refl) (at_bits (λ x y. (max x 1 + 1) % 2 ≡ 0) refl refl refl refl m m k)

  -- at any other
  joined-there : (a : ℕ) → (a ≡ k → ⊥) → bit (joined m k) a ≡ bit m a
  joined-there a n = joined-max a ∙ rw (ne_eqb a k n) (omega arith)

  pub without-there : (a : ℕ) → (a ≡ k → ⊥) → bit (without m k) a ≡ bit m a
  without-there a n = without-differ a ∙ rw (ne_eqb a k n) (at_bits (λ x y. (max x 0 + 0) % 2 ≡ x) refl refl refl refl m m a)

  -- a slot that was not in it adds one there, a slot that was takes one away
  pub joined-adds : bit m k ≡ 0 → (a : ℕ) → bit (joined m k) a ≡ bit m a + only (eqb a k) 1
  joined-adds free a = go (eqb a k) refl
    where
      go : (t : Bool) → eqb a k ≡ t → bit (joined m k) a ≡ bit m a + only t 1
      go true e = rw (eqb-true a k e) (omega (arith, joined-here, free))
      go false e = joined-there a (eqb-false a k e) ∙ omega arith

  pub without-takes : bit m k ≡ 1 → (a : ℕ) → bit (without m k) a + only (eqb a k) 1 ≡ bit m a
  without-takes busy a = go (eqb a k) refl
    where
      go : (t : Bool) → eqb a k ≡ t → bit (without m k) a + only t 1 ≡ bit m a
      go true e = rw (eqb-true a k e) (omega (arith, without-here, busy))
      go false e = omega (arith, without-there a (eqb-false a k e))

  -- no wider than the mask and the slot, at any width
  pub joined-lt : (K : ℕ) → m < 2 ^ K → k < K → joined m k < 2 ^ K
  joined-lt K h l = or_lt K m (2 ^ k) h (pow-lt l)

  pub without-lt : (K : ℕ) → m < 2 ^ K → k < K → without m k < 2 ^ K
  without-lt K h l = xor_lt K (joined m k) (2 ^ k) (joined-lt K h l) (pow-lt l)
