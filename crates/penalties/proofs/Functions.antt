-- The penalty by the function that a number stands for, and that it fits. Assumes nothing.
use Rattle.std.proofs.Common.{◌≡◌, ℕ, ◌*◌, ◌^◌, ◌≤◌, ◌<◌, List, Fits, w64, arith}
use Rattle.std.proofs.Common.{refl, sym, ap, ◌∙◌, true, false, true≢false, Result, Ok, Err, MatchResult}
use native.Mathlib.Nat.{mul-le-mul, le_trans, lt_of_le_of_lt}
use lib.Dec.{eqb}
use borrow.Author.Tests.{ne_eqb}
use Rattle.std.specs.Result.{result_unwrap_or}
use Rattle.robinx.specs.Penalty.{sum, sum_of_squares, combine, function_number}
use Rattle.robinx.specs.Rules.{fits}
use Rattle.robinx.specs.declared.function.Function.{Function}
use Rattle.robinx.specs.declared.function.Function.TheVariants.{Largest}
use Rattle.robinx.specs.declared.function.NoFunction.{NoFunction}
use Rattle.robinx.proofs.Bounds.{combine-le}

-- what is no function gives the largest
of-none : (n : ℕ) (l : List ℕ) → fits 1 5 n ≡ false → combine n l ≡ combine 5 l
unfolding combine
of-none n l e =
    let other : (k : ℕ) → fits 1 5 k ≡ true → eqb n k ≡ false = λ k t. ne_eqb n k (λ q. true≢false (sym t ∙ ap (fits 1 5) (sym q) ∙ e)) in
    rw (other 1 refl, other 2 refl, other 3 refl, other 4 refl)

pub as_read : (n : ℕ) (l : List ℕ) (r : Result Function NoFunction)
    → MatchResult r (λ f. function_number f ≡ n) (λ e. fits 1 5 n ≡ false) → combine n l ≡ combine (function_number (result_unwrap_or r Largest)) l
as_read n l (Ok f) h = ap (λ (k : ℕ). combine k l) (sym h)
as_read n l (Err e) h = of-none n l h

-- the sum of squares is at most the square of the sum
pub squares_low : (l : List ℕ) → sum l < 2 ^ 32 → sum_of_squares l < 2 ^ 64
unfolding combine
squares_low l h = let s : sum l ≤ 4294967295 = omega (arith, h) in omega (arith, combine-le 3 l, mul-le-mul s s)

-- the weight is a byte, and the function at most the square of the sum
pub penalty_fits : (w f n : ℕ) (l : List ℕ) → f ≡ combine n l → w ≤ 255 → sum l < 2 ^ 28 → Fits w64 (w * f)
penalty_fits w f n l e b h =
    let s : sum l ≤ 268435455 = omega (arith, h) in
    let low : f ≤ 268435455 * 268435455 = rw e (le_trans (combine-le n l) (mul-le-mul s s)) in
    record { fits = lt_of_le_of_lt (mul-le-mul b low) (omega arith) }

pub ruleset penalty_rules = (as_read, penalty_fits)
