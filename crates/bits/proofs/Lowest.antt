-- The lowest set bit of a word, and what is left without it. Assumes nothing.
use Rattle.std.proofs.Common.{◌≡◌, ℕ, ◌+◌, ◌-◌, ◌*◌, ◌/◌, ◌%◌, ◌^◌, ◌<◌, ◌≤◌, min, true, false, true≢false, eqb, sym, ap, ◌∙◌, arith}
use Rattle.std.proofs.Common.{mod-lt, pow_pos}
use native.Mathlib.Decide.{ℕ_discrete, dec_lt}
use lib.Bits.{bit_and}
use lib.Pow.{split, pow-lt}
use Rattle.std.specs.Int.{w64, trailing_zeros}
use Rattle.std.proofs.lemmas.Nat.Bits.{bit_at-trailing_zeros, bit_at-pow_same, bit_at-pow_other, bit_at_cat_low, bit_at_cat_high}
use Rattle.std.proofs.lemmas.Nat.Bits.{bit_at_and, bit_at_ones_above, same_from_bits_below}
use Rattle.robinx.specs.Groups.{bit, has}
use Rattle.robinx.proofs.Bits.{mod-bit}
use Rattle.robinx.proofs.SetBits.{in-below}
use Rattle.bits.specs.SetBits.{Lowest}

-- k is the lowest set bit of w, so w - 1 has the bits below it in its place
module _ (w k : ℕ) (found : bit w k ≡ 1) (clear : (i : ℕ) → i < k → bit w i ≡ 0) where
  front : w % 2 ^ (k + 1) ≡ 2 ^ k
  front =
      same_from_bits_below (k + 1) _ _ (mod-lt w (pow_pos (k + 1))) (pow-lt (omega arith))
      (λ i l. mod-bit (k + 1) i w l ∙ go i l (ℕ_discrete i k))
    where
      go : (i : ℕ) → i < k + 1 → Dec (i ≡ k) → bit w i ≡ bit (2 ^ k) i
      go i l (yes e) = rw (e, found) (sym (bit_at-pow_same k))
      go i l (no n) = clear i (omega (arith, n)) ∙ sym (bit_at-pow_other k i n)

  less : w - 1 ≡ w / 2 ^ (k + 1) * 2 ^ (k + 1) + (2 ^ k - 1)
  less = omega (arith, split w (k + 1), front, pow_pos k)

  less-here : bit (w - 1) k ≡ 0
  less-here = rw less (bit_at_cat_low (w / 2 ^ (k + 1)) (k + 1) (2 ^ k - 1) k (omega arith) ∙ bit_at_ones_above k k (omega arith))

  less-above : (i : ℕ) → k < i → bit (w - 1) i ≡ bit w i
  less-above i l =
      let q = w / 2 ^ (k + 1) in
      let room : 2 ^ k < 2 ^ (k + 1) = pow-lt (omega arith) in
      rw less (bit_at_cat_high q (k + 1) (2 ^ k - 1) i (omega (arith, room)) (omega arith))
      ∙ sym (bit_at_cat_high q (k + 1) (2 ^ k) i room (omega arith))
      ∙ ap (λ (v : ℕ). bit (q * 2 ^ (k + 1) + v) i) (sym front) ∙ ap (λ (v : ℕ). bit v i) (split w (k + 1))

  both : (i : ℕ) → (i ≡ k → ⊥) → bit (bit_and w (w - 1)) i ≡ bit w i
  both i n = bit_at_and w (w - 1) i ∙ go (dec_lt k i)
    where
      go : Dec (k < i) → min (bit w i) (bit (w - 1) i) ≡ bit w i
      go (yes l) = omega (arith, less-above i l)
      go (no l) = omega (arith, clear i (omega (arith, l, n)))

pub lowest : (w : ℕ) → w < 2 ^ 64 → 0 < w → Lowest w (trailing_zeros w64 w) (bit_and w (w - 1))
lowest w h some =
    let k = trailing_zeros w64 w in
    let t = bit_at-trailing_zeros w64 w some h in
    let gone : bit (bit_and w (w - 1)) k ≡ 0 = bit_at_and w (w - 1) k ∙ omega (arith, less-here w k t.1 t.2) in
    record {
      room = t.0;
      found = ap (λ (b : ℕ). eqb b 1) t.1;
      clear = λ i l. ap (λ (b : ℕ). eqb b 1) (t.2 i l);
      gone = ap (λ (b : ℕ). eqb b 1) gone;
      others = λ i n. ap (λ (b : ℕ). eqb b 1) (both w k t.1 t.2 i n);
    }

module _ {w k r : ℕ} (l : Lowest w k r) where
  -- what is left is of w, and higher
  pub not-up-to : (i : ℕ) → i ≤ k → has r i ≡ false
  not-up-to i b = go (ℕ_discrete i k)
    where
      go : Dec (i ≡ k) → has r i ≡ false
      go (yes e) = rw e l.gone
      go (no n) = l.others i n ∙ l.clear i (omega (arith, n))

  pub higher : (i : ℕ) → has r i ≡ true → k < i
  higher i e = go (dec_lt k i)
    where
      go : Dec (k < i) → k < i
      go (yes b) = b
      go (no b) = absurd (true≢false (sym e ∙ not-up-to i (omega (arith, b))))

  pub still : (i : ℕ) → has r i ≡ true → has w i ≡ true
  still i e = sym (l.others i (λ q. omega (arith, higher i e))) ∙ e

  -- a bit of w that is not left is the lowest
  pub taken : (i : ℕ) → has w i ≡ true → has r i ≡ false → i ≡ k
  taken i e n = go (ℕ_discrete i k)
    where
      go : Dec (i ≡ k) → i ≡ k
      go (yes q) = q
      go (no q) = absurd (true≢false (sym e ∙ sym (l.others i q) ∙ n))

-- every bit of w is one of v
pub record Part (w v : ℕ) : Type 0 where
  pub within : (i : ℕ) → has w i ≡ true → has v i ≡ true

pub whole : (w : ℕ) → Part w w
whole w = record { within = λ i e. e }

-- a walk over v that has w left takes k
module _ {v w k r : ℕ} (part : Part w v) (l : Lowest w k r) where
  pub part-left : Part r v
  part-left = record { within = λ i e. part.within i (still l i e) }

  pub taken-has : has v k ≡ true
  taken-has = part.within k l.found

  pub taken-below : (n : ℕ) → v < 2 ^ n → k < n
  taken-below n h = in-below v n h k taken-has
