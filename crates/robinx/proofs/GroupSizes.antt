-- A group's size is the number of its set bits, and its pairs are as many as a triangle has. Assumes nothing.
use mathlib.Core.Path.{◌≡◌, refl, sym, ap, ap₂, ◌∙◌}
use mathlib.Core.Bool.{Bool, true, false, and-false, and-true}
use Prim.Native.Nat.{ℕ, zero, suc, ◌+◌, ◌*◌, ◌/◌, ◌^◌, ◌<◌, ◌≤◌}
use native.Mathlib.Omega.{arith}
use native.Mathlib.Numerals.{add-one}
use lib.Pow.{shr_lt}
use lib.Count.{ones, ones_step}
use borrow.Author.Tests.{eqb-true, eqb-false, lt-ltb, le-ltb}
use Rattle.std.proofs.lemmas.Nat.Bits.{bit_at_lowest, bit_at-suc}
use Rattle.robinx.specs.Sums.{sum_to, only}
use Rattle.robinx.specs.Groups.{bit, has, size, is_pair, pairs}
use Rattle.robinx.proofs.Ext.{sum-ext}
use Rattle.robinx.proofs.Sums.{sum_step, sum-shift, sum-zero, sum-add, sum_bound, sum_mono, only-le}

pub only-bit : (T k : ℕ) → only (has T k) 1 ≡ bit T k
only-bit T k = go (has T k) refl
  where
    go : (b : Bool) → has T k ≡ b → only b 1 ≡ bit T k
    go true e = sym (eqb-true (bit T k) 1 e)
    go false e = let d = eqb-false (bit T k) 1 e in omega arith

bits-ones : (n T : ℕ) → T < 2 ^ n → sum_to (bit T) n ≡ ones T
unfolding sum_to ones
bits-ones zero T h = let e : T ≡ 0 = omega arith in ap ones (sym e)
bits-ones (suc n) T h =
    sum-shift (bit T) n
    ∙ ap₂ ◌+◌
    (bit_at_lowest T)
    (sum-ext n (λ k l. bit_at-suc T k) ∙ bits-ones n (T / 2) (shr_lt n 1 (rw add-one h)))
    ∙ sym (ones_step T)

pub size-ones : (n T : ℕ) → T < 2 ^ n → size n T ≡ ones T
unfolding size
size-ones n T h = sum-ext n (λ k l. only-bit T k) ∙ bits-ones n T h

module _ (T : ℕ) where
  pub size-zero : size 0 T ≡ 0
  unfolding size sum_to
  size-zero = refl

  pub size_step : (n : ℕ) → size (n + 1) T ≡ size n T + only (has T n) 1
  unfolding size
  size_step n = sum_step _ n

  pub size-le : (n : ℕ) → size n T ≤ n
  unfolding size
  size-le n = omega (arith, sum_bound n 1 (λ k l. only-le (has T k) 1))

  pub size_mono : (k n : ℕ) → k ≤ n → size k T ≤ size n T
  unfolding size
  size_mono = sum_mono (λ t. only (has T t) 1)

  -- a member below n has a place of its own among the n
  pub size-lt : (k n : ℕ) → k < n → has T k ≡ true → size k T < size n T
  size-lt k n l h = omega (arith, size_mono (k + 1) n (omega arith), rw h at (size_step k))

  -- the pairs that member n makes with those below it
  lower : (n : ℕ) (b : Bool) → has T n ≡ b → sum_to (λ i. only (is_pair T i n) 1) n ≡ only b (size n T)
  unfolding size
  lower n true e = sum-ext n (λ i l. simp (e, lt-ltb i n l, and-true))
  lower n false e = sum-zero n (λ i l. simp (e, and-false))

  none-lower : (n j : ℕ) → j < suc n → only (is_pair T n j) 1 ≡ 0
  none-lower n j l = simp (le-ltb n j (omega arith), and-false)

  pub pairs-zero : pairs 0 T ≡ 0
  unfolding pairs sum_to
  pairs-zero = refl

  pub pairs-step : (n : ℕ) → pairs (n + 1) T ≡ pairs n T + only (has T n) (size n T)
  unfolding pairs sum_to
  pairs-step n = rw add-one
      (omega (
        arith,
        sum-add (λ i. sum_to (λ j. only (is_pair T i j) 1) n) (λ i. only (is_pair T i n) 1) n,
        lower n (has T n) refl,
        sum-zero (suc n) (none-lower n),
      ))

  triangle : (b : Bool) (p s : ℕ) → 2 * p + s ≡ s * s → 2 * (p + only b s) + (s + only b 1) ≡ (s + only b 1) * (s + only b 1)
  triangle true p s h = omega arith
  triangle false p s h = omega arith

  pub pairs-size : (n : ℕ) → 2 * pairs n T + size n T ≡ size n T * size n T
  pairs-size zero = rw (pairs-zero, size-zero)
  pairs-size (suc n) = rw (← add-one n, pairs-step n, size_step n) (triangle (has T n) (pairs n T) (size n T) (pairs-size n))
