-- A group moved down by i + 1 places and up again has its bits above i and no others. Assumes nothing.
use Rattle.std.proofs.Common.{◌≡◌, ℕ, ◌+◌, ◌-◌, ◌*◌, ◌/◌, ◌%◌, ◌^◌, ◌<◌, ◌≤◌, ◌&&◌, eqb, ltb, sym, ap, ◌∙◌, arith, pow_pos, add-zero, mod-eq_of_lt}
use native.Mathlib.Decide.{dec_lt}
use borrow.Author.Tests.{lt-ltb, le-ltb}
use lib.Pow.{split}
use Rattle.std.proofs.lemmas.Nat.Bits.{bit_at-zero, bit_at_cat_low, bit_at_cat_high}
use Rattle.robinx.specs.Groups.{bit, has}
use Rattle.robinx.proofs.Bits.{shift-bit}

module _ (T i t : ℕ) where
  above : i < t → bit (T / 2 ^ (i + 1) * 2 ^ (i + 1)) t ≡ bit T t
  above l =
      ap (λ (v : ℕ). bit v t) (sym (add-zero (T / 2 ^ (i + 1) * 2 ^ (i + 1))))
      ∙ bit_at_cat_high (T / 2 ^ (i + 1)) (i + 1) 0 t (pow_pos (i + 1)) (omega arith)
      ∙ shift-bit T (i + 1) (t - (i + 1)) ∙ ap (bit T) (omega arith)

  up-to : t ≤ i → bit (T / 2 ^ (i + 1) * 2 ^ (i + 1)) t ≡ 0
  up-to l =
      ap (λ (v : ℕ). bit v t) (sym (add-zero (T / 2 ^ (i + 1) * 2 ^ (i + 1))))
      ∙ bit_at_cat_low (T / 2 ^ (i + 1)) (i + 1) 0 t (omega arith) ∙ bit_at-zero t

  kept : has (T / 2 ^ (i + 1) * 2 ^ (i + 1)) t ≡ (ltb i t && has T t)
  kept = go (dec_lt i t)
    where
      go : Dec (i < t) → has (T / 2 ^ (i + 1) * 2 ^ (i + 1)) t ≡ (ltb i t && has T t)
      go (yes l) = rw (lt-ltb i t l) (ap (λ (b : ℕ). eqb b 1) (above l))
      go (no n) = rw (le-ltb i t (omega (arith, n))) (ap (λ (b : ℕ). eqb b 1) (up-to (omega (arith, n))))

-- .. in a word of 64 bits
pub kept_above : (T i t : ℕ) → T < 2 ^ 64 → has (T / 2 ^ (i + 1) * 2 ^ (i + 1) % 2 ^ 64) t ≡ (ltb i t && has T t)
kept_above T i t h =
    let small : T / 2 ^ (i + 1) * 2 ^ (i + 1) < 2 ^ 64 = omega (arith, split T (i + 1)) in rw (mod-eq_of_lt small) (kept T i t)
