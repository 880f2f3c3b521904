-- Bits of and, or, a power of 2, of shifted numbers and below a modulus, and words of ones, for numbers of any width. Most laws of one bit are
-- std's: its `bit_at` is `bit`. Assumes nothing.
use mathlib.Core.Path.{◌≡◌, refl, sym, ap, ◌∙◌}
use mathlib.Core.Bool.{false, ◌&&◌, ◌||◌}
use Prim.Native.Nat.{ℕ, zero, suc, ◌+◌, ◌-◌, ◌/◌, ◌%◌, ◌^◌, ◌<◌, ◌≤◌, min, max}
use native.Mathlib.Omega.{arith}
use native.Mathlib.Decide.{ℕ_discrete}
use lib.Bits.{bit_and, bit_or}
use lib.Pow.{shr-shr, split}
use lib.Dec.{eqb}
use borrow.Author.Tests.{eq-eqb, ne_eqb}
use Rattle.std.proofs.lemmas.Nat.Bits.{bit_at-lt, bit_at_and, bit_at_or, bit_at-pow_same, bit_at-pow_other, bit_at_cat_low, ones_shr}
use Rattle.robinx.specs.Sums.{only}
use Rattle.robinx.specs.Groups.{bit, has}
use Rattle.robinx.proofs.GroupSizes.{only-bit}

-- what holds of 0 and 1 holds of bits
pub at_bits : (P : ℕ → ℕ → Type 0) → P 0 0 → P 0 1 → P 1 0 → P 1 1 → (m n k : ℕ) → P (bit m k) (bit n k)
at_bits P a b c d m n k = go (bit m k) (bit n k) (bit_at-lt m k) (bit_at-lt n k)
  where
    go : (x y : ℕ) → x < 2 → y < 2 → P x y
    go zero zero p q = a
    go zero (suc zero) p q = b
    go (suc zero) zero p q = c
    go (suc zero) (suc zero) p q = d
    go zero (suc (suc y)) p q = absurd (omega arith)
    go (suc zero) (suc (suc y)) p q = absurd (omega arith)
    go (suc (suc x)) y p q = absurd (omega arith)

pub and-has : (m n k : ℕ) → has (bit_and m n) k ≡ has m k && has n k
and-has m n k = ap (λ (z : ℕ). eqb z 1) (bit_at_and m n k) ∙ at_bits (λ x y. eqb (min x y) 1 ≡ eqb x 1 && eqb y 1) refl refl refl refl m n k

pub or-has : (m n k : ℕ) → has (bit_or m n) k ≡ has m k || has n k
or-has m n k = ap (λ (z : ℕ). eqb z 1) (bit_at_or m n k) ∙ at_bits (λ x y. eqb (max x y) 1 ≡ eqb x 1 || eqb y 1) refl refl refl refl m n k

pub out-bit : (m k : ℕ) → has m k ≡ false → bit m k ≡ 0
out-bit m k e = sym (only-bit m k) ∙ rw e refl

-- of one member
pub one_bit : (k a : ℕ) → bit (2 ^ k) a ≡ only (eqb a k) 1
one_bit k a = go (ℕ_discrete a k)
  where
    go : Dec (a ≡ k) → bit (2 ^ k) a ≡ only (eqb a k) 1
    go (yes e) = rw (e, eq-eqb k k refl) (bit_at-pow_same k)
    go (no n) = rw (ne_eqb a k n) (bit_at-pow_other k a n)

-- shifted numbers
pub shift-bit : (m k a : ℕ) → bit (m / 2 ^ k) a ≡ bit m (k + a)
shift-bit m k a = ap (λ (z : ℕ). z % 2) (shr-shr m k a)

-- bits below a modulus
pub mod-bit : (K k n : ℕ) → k < K → bit (n % 2 ^ K) k ≡ bit n k
mod-bit K k n l = sym (bit_at_cat_low (n / 2 ^ K) K (n % 2 ^ K) k l) ∙ ap (λ (z : ℕ). bit z k) (split n K)

pub front-has : (m P k : ℕ) → k < P → has (m % 2 ^ P) k ≡ has m k
front-has m P k l = ap (λ (z : ℕ). eqb z 1) (mod-bit P k m l)

-- K ones, less all but the lowest n
pub all-below : (K n : ℕ) → n ≤ K → (2 ^ K - 1) / 2 ^ (K - n) ≡ 2 ^ n - 1
all-below K n h = let e : K - (K - n) ≡ n = omega arith in rw e at (ones_shr K (K - n) (omega arith))
