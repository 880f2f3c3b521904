-- Facts about sums, largest values and tests over 0 .. n − 1. Assumes nothing.
use mathlib.Core.Path.{◌≡◌, refl, sym, ap, ◌∙◌}
use mathlib.Core.List.{List, ◌++◌, map-id}
use mathlib.Core.Bool.{Bool, true, false, ◌||◌, or-true, or-false, or_comm, true≢false}
use Prim.Native.Nat.{ℕ, zero, suc, ◌+◌, ◌*◌, ◌<◌, ◌≤◌}
use native.Mathlib.Omega.{arith}
use native.Mathlib.Numerals.{add-one}
use native.Mathlib.Nat.{add-zero, add-suc}
use native.Mathlib.Decide.{dec_lt, le_ind}
use lib.Dec.{ltb}
use borrow.Author.Tests.{lt-ltb}
use Rattle.std.specs.Bool.{Decides}
use Rattle.std.specs.List.{sum_by, range_with_len}
use Rattle.std.proofs.lemmas.Bool.{false_from_ne_true}
use Rattle.std.proofs.lemmas.Bool.Decides.{Decides-below_or, not_from_Decides}
use Rattle.std.proofs.lemmas.List.FromFn.{sum_by-map-range_with_len_more}
use Rattle.robinx.specs.Sums.{sum_to, max_to, cat_to, any_to, only}

pub only-le : (b : Bool) (v : ℕ) → only b v ≤ v
only-le true v = omega arith
only-le false v = omega arith

pub only_yes : (b : Bool) (v : ℕ) → 0 < only b v → (b ≡ true) × (0 < v)
only_yes true v h = (refl, h)
only_yes false v h = let z : ⊥ = omega arith in absurd z

pub only-bound : (b : Bool) {v B : ℕ} → v ≤ B → only b v ≤ B
only-bound b {v} {B} h = omega (arith, only-le b v)

pub only_none : (b : Bool) → only b 0 ≡ 0
only_none true = refl
only_none false = refl

-- One more turn of a loop: each definition at k + 1.
pub sum_step : (f : ℕ → ℕ) (k : ℕ) → sum_to f (k + 1) ≡ sum_to f k + f k
unfolding sum_to
sum_step f k = rw add-one

pub cat-step : (f : ℕ → List ℕ) (k : ℕ) → cat_to f (k + 1) ≡ cat_to f k ++ f k
unfolding cat_to
cat-step f k = rw add-one

pub any_step : (p : ℕ → Bool) (k : ℕ) → any_to p (k + 1) ≡ any_to p k || p k
unfolding any_to
any_step p k = rw add-one

-- A sum's first term apart, a sum in two parts, and sums of sums.
pub sum-shift : (f : ℕ → ℕ) (n : ℕ) → sum_to f (suc n) ≡ f 0 + sum_to (λ k. f (suc k)) n
unfolding sum_to
sum-shift f zero = omega arith
sum-shift f (suc n) = omega (arith, sum-shift f n)

pub sum-split : (f : ℕ → ℕ) (a w : ℕ) → sum_to f (a + w) ≡ sum_to f a + sum_to (λ d. f (a + d)) w
unfolding sum_to
sum-split f a zero = rw (add-zero a) (omega arith)
sum-split f a (suc w) = rw (add-suc a w) (omega (arith, sum-split f a w))

pub sum-zero : {f : ℕ → ℕ} (n : ℕ) → ((k : ℕ) → k < n → f k ≡ 0) → sum_to f n ≡ 0
unfolding sum_to
sum-zero zero h = refl
sum-zero (suc n) h = omega (arith, sum-zero n (λ k l. h k (omega arith)), h n (omega arith))

-- a sum of what one test asks for
pub only_sum : (b : Bool) (f : ℕ → ℕ) (n : ℕ) → sum_to (λ j. only b (f j)) n ≡ only b (sum_to f n)
only_sum true f n = refl
only_sum false f n = sum-zero n (λ j l. refl)

pub sum-add : (f g : ℕ → ℕ) (n : ℕ) → sum_to (λ k. f k + g k) n ≡ sum_to f n + sum_to g n
unfolding sum_to
sum-add f g zero = omega arith
sum-add f g (suc n) = omega (arith, sum-add f g n)

pub sum-scale : (w : ℕ) (f : ℕ → ℕ) (n : ℕ) → sum_to (λ k. w * f k) n ≡ w * sum_to f n
unfolding sum_to
sum-scale w f zero = omega arith
sum-scale w f (suc n) = omega (arith, sum-scale w f n)

pub sum-swap : (f : ℕ → ℕ → ℕ) (n m : ℕ) → sum_to (λ i. sum_to (f i) m) n ≡ sum_to (λ j. sum_to (λ i. f i j) n) m
unfolding sum_to
sum-swap f zero m = sym (sum-zero m (λ k l. refl))
sum-swap f (suc n) m = omega (arith, sum-swap f n m, sum-add (λ j. sum_to (λ i. f i j) n) (f n) m)

-- How large sums and largest values are.
pub sum-le : {f g : ℕ → ℕ} (n : ℕ) → ((k : ℕ) → k < n → f k ≤ g k) → sum_to f n ≤ sum_to g n
unfolding sum_to
sum-le zero h = omega arith
sum-le (suc n) h = omega (arith, sum-le n (λ k l. h k (omega arith)), h n (omega arith))

pub sum_bound : {f : ℕ → ℕ} (n B : ℕ) → ((k : ℕ) → k < n → f k ≤ B) → sum_to f n ≤ n * B
unfolding sum_to
sum_bound zero B h = omega arith
sum_bound (suc n) B h = omega (arith, sum_bound n B (λ k l. h k (omega arith)), h n (omega arith))

pub max-bound : {f : ℕ → ℕ} (n B : ℕ) → ((k : ℕ) → k < n → f k ≤ B) → max_to f n ≤ B
unfolding max_to
max-bound zero B h = omega arith
max-bound (suc n) B h = omega (arith, max-bound n B (λ k l. h k (omega arith)), h n (omega arith))

pub sum_mono : (f : ℕ → ℕ) (k n : ℕ) → k ≤ n → sum_to f k ≤ sum_to f n
unfolding sum_to
sum_mono f k n h = le_ind (λ m. sum_to f k ≤ sum_to f m) (omega arith) (λ m l ih. omega (arith, ih)) n h

pub term-le-sum : (f : ℕ → ℕ) (k n : ℕ) → k < n → f k ≤ sum_to f n
term-le-sum f k n h = omega (arith, sum_step f k, sum_mono f (k + 1) n (omega arith))

-- a sum that is not 0 has a term that is not
pub some-term : (f : ℕ → ℕ) (n : ℕ) → 0 < sum_to f n → (k : ℕ) × (k < n) × (0 < f k)
unfolding sum_to
some-term f zero h = let z : ⊥ = omega arith in absurd z
some-term f (suc n) h = go (dec_lt 0 (f n)) (some-term f n)
  where
    go : Dec (0 < f n) → (0 < sum_to f n → (k : ℕ) × (k < n) × (0 < f k)) → (k : ℕ) × (k < suc n) × (0 < f k)
    go (yes l) ih = (n, omega arith, l)
    go (no l) ih = let r = ih (omega arith) in (r.0, omega (arith, r.1), r.2)

-- where no two pass, at most one does
pub one_at_most : (p : ℕ → Bool) (n : ℕ)
    → ((g h : ℕ) → g < n → h < g → p g ≡ true → p h ≡ true → ⊥)
    → sum_to (λ g. only (p g) 1) n ≤ 1
unfolding sum_to
one_at_most p zero d = omega arith
one_at_most p (suc n) d = go (p n) refl (one_at_most p n (λ g h lg. d g h (omega arith)))
  where
    go : (b : Bool) → p n ≡ b → sum_to (λ g. only (p g) 1) n ≤ 1 → sum_to (λ g. only (p g) 1) n + only b 1 ≤ 1
    go true e ih =
        omega (arith, sum-zero {f = λ g. only (p g) 1} n (λ k l. ap (λ (b : Bool). only b 1) (false_from_ne_true (p k) (d n k (omega arith) l e))))
    go false e ih = omega arith

-- Tests: what one term says of all, and all of one.
any-decides : (p : ℕ → Bool) (n : ℕ) → Decides (any_to p n) ((k : ℕ) × (k < n) × (p k ≡ true))
unfolding any_to
any-decides p = Decides-below_or p (λ k. p k ≡ true) (any_to p) (λ k. (λ e. e, λ e. e)) refl (λ n. or_comm (any_to p n) (p n))

pub some-any : (p : ℕ → Bool) (n : ℕ) → any_to p n ≡ true → (k : ℕ) × (k < n) × (p k ≡ true)
some-any p n = (any-decides p n).0

pub any_some : (p : ℕ → Bool) (n k : ℕ) → k < n → p k ≡ true → any_to p n ≡ true
any_some p n k l h = (any-decides p n).1 (k, l, h)

pub any_none : (p : ℕ → Bool) (n : ℕ) → any_to p n ≡ false → (k : ℕ) → k < n → p k ≡ false
any_none p n h k l = false_from_ne_true (p k) (λ e. not_from_Decides (any_to p n) (any-decides p n) h (k, l, e))

pub none_any : (p : ℕ → Bool) (n : ℕ) → ((k : ℕ) → k < n → p k ≡ false) → any_to p n ≡ false
none_any p n h = false_from_ne_true (any_to p n) (λ e. let s = some-any p n e in true≢false (sym s.2 ∙ h s.0 s.1))

pub any-is-sum : (p : ℕ → Bool) (n : ℕ) → any_to p n ≡ ltb 0 (sum_to (λ k. only (p k) 1) n)
unfolding any_to sum_to
any-is-sum p zero = refl
any-is-sum p (suc n) = go (p n) (sum_to (λ k. only (p k) 1) n) (any-is-sum p n)
  where
    go : (b : Bool) (s : ℕ) → any_to p n ≡ ltb 0 s → any_to p n || b ≡ ltb 0 (s + only b 1)
    go true s ih = or-true (any_to p n) ∙ sym (lt-ltb 0 (s + 1) (omega arith))
    go false s ih = or-false (any_to p n) ∙ ih ∙ ap (ltb 0) (sym (add-zero s))

-- a sum over the numbers below n, in std's words
pub sum_to-range : (f : ℕ → ℕ) (n : ℕ) → sum_to f n ≡ sum_by f (range_with_len 0 n)
unfolding sum_to
sum_to-range f zero = refl
sum_to-range f (suc n) =
    ap (λ (v : ℕ). v + f n) (sum_to-range f n)
    ∙ sym (rw (add-one n, map-id, map-id) at (sum_by-map-range_with_len_more f (λ k. k) 0 n n (omega arith)))
