-- Sums, largest values and lists over a word's set bits: the lowest bit's part and that of the others; none of the word 0. Assumes nothing.
use Rattle.std.proofs.Common.{◌≡◌, ℕ, zero, suc, ◌+◌, ◌<◌, ◌≤◌, max, Bool, false, eqb, refl, sym, ap, ap₂, ◌∙◌, arith}
use mathlib.Core.Bool.{and-true, and-false}
use mathlib.Core.List.{List, [], ◌∷◌, ◌++◌, append-nil, append_assoc}
use native.Mathlib.Decide.{ℕ_discrete, dec_lt}
use borrow.Author.Tests.{lt-ltb, le-ltb}
use lib.ListN.{length, length-append}
use Rattle.std.proofs.lemmas.Nat.Bits.{bit_at-zero}
use Rattle.robinx.specs.Sums.{sum_to, max_to, cat_to, only, only_l}
use Rattle.robinx.specs.Groups.{has, size, is_pair, pairs}
use Rattle.robinx.specs.Deviations.{over, each, each_pair}
use Rattle.robinx.proofs.Sums.{sum-zero}
use Rattle.robinx.proofs.Ext.{sum-ext, max-ext, cat-ext}
use Rattle.robinx.proofs.Lengths.{length-each, length-each_pair}
use Rattle.bits.specs.SetBits.{Lowest}
use Rattle.bits.proofs.Lowest.{not-up-to}

-- Figures that differ at a alone, where the second has none.
module _ {f g : ℕ → ℕ} (a : ℕ) (same : (k : ℕ) → (k ≡ a → ⊥) → g k ≡ f k) (none : g a ≡ 0) where
  pub sum-but-one : (n : ℕ) → a < n → sum_to f n ≡ f a + sum_to g n
  unfolding sum_to
  sum-but-one zero l = absurd (omega arith)
  sum-but-one (suc n) l = go (ℕ_discrete n a) (sum-but-one n)
    where
      go : Dec (n ≡ a) → (a < n → sum_to f n ≡ f a + sum_to g n) → sum_to f n + f n ≡ f a + (sum_to g n + g n)
      go (yes e) ih = omega (arith, sum-ext {f = g} {g = f} n (λ k lk. same k (λ q. omega arith)), ap f e, ap g e, none)
      go (no e) ih = omega (arith, ih (omega (arith, e)), same n e)

  max-but-one : (n : ℕ) → a < n → max_to f n ≡ max (f a) (max_to g n)
  unfolding max_to
  max-but-one zero l = absurd (omega arith)
  max-but-one (suc n) l = go (ℕ_discrete n a) (max-but-one n)
    where
      go : Dec (n ≡ a) → (a < n → max_to f n ≡ max (f a) (max_to g n)) → max (max_to f n) (f n) ≡ max (f a) (max (max_to g n) (g n))
      go (yes e) ih = omega (arith, max-ext {f = g} {g = f} n (λ k lk. same k (λ q. omega arith)), ap f e, ap g e, none)
      go (no e) ih = omega (arith, ih (omega (arith, e)), same n e)

cat-empty : {f : ℕ → List ℕ} (n : ℕ) → ((k : ℕ) → k < n → f k ≡ []) → cat_to f n ≡ []
unfolding cat_to
cat-empty zero h = refl
cat-empty (suc n) h = ap₂ ◌++◌ (cat-empty n (λ k l. h k (omega arith))) (h n (omega arith))

-- Lists that begin at a, of which the second lacks the first part.
cat-but-first : {f g : ℕ → List ℕ} (a n : ℕ) → ((k : ℕ) → k < a → f k ≡ []) → ((k : ℕ) → k ≤ a → g k ≡ [])
    → ((k : ℕ) → a < k → g k ≡ f k) → a < n → cat_to f n ≡ f a ++ cat_to g n
unfolding cat_to
cat-but-first a zero none gone same l = absurd (omega arith)
cat-but-first {f} {g} a (suc n) none gone same l = go (ℕ_discrete n a) (cat-but-first a n none gone same)
  where
    go : Dec (n ≡ a) → (a < n → cat_to f n ≡ f a ++ cat_to g n) → cat_to f n ++ f n ≡ f a ++ (cat_to g n ++ g n)
    go (yes e) ih =
        rw (cat-empty {f = f} n (λ k lk. none k (omega arith)), cat-empty {f = g} n (λ k lk. gone k (omega arith)), gone n (omega arith))
        (rw (append-nil, e) refl)
    go (no e) ih = rw (ih (omega (arith, e)), same n (omega (arith, e))) (append_assoc (f a) (cat_to g n) (f n))

-- of no bits
pub bare : (k : ℕ) → has 0 k ≡ false
bare k = ap (λ (b : ℕ). eqb b 1) (bit_at-zero k)

pub over-none : (n : ℕ) (f : ℕ → ℕ) → over n 0 f ≡ 0
unfolding over
over-none n f = sum-zero n (λ k l. rw (bare k) refl)

pub each-none : (n : ℕ) (f : ℕ → ℕ) → each n 0 f ≡ []
unfolding each
each-none n f = cat-empty n (λ k l. rw (bare k) refl)

pub each_pair-none : (n : ℕ) (f : ℕ → ℕ → ℕ) → each_pair n 0 f ≡ []
unfolding each_pair
each_pair-none n f = cat-empty n (λ k l. rw (bare k) (cat-empty n (λ j lj. refl)))

pub size-none : (n : ℕ) → size n 0 ≡ 0
size-none n = sym (length-each n 0 (λ i. 0)) ∙ ap length (each-none n (λ i. 0))

pub pairs-none : (n : ℕ) → pairs n 0 ≡ 0
pairs-none n = sym (length-each_pair n 0 (λ i j. 0)) ∙ ap length (each_pair-none n (λ i j. 0))

module _ {w k r : ℕ} (l : Lowest w k r) (n : ℕ) (in-n : k < n) where
  pub over-lowest : (f : ℕ → ℕ) → over n w f ≡ f k + over n r f
  unfolding over
  over-lowest f =
      sum-but-one k (λ i q. ap (λ (b : Bool). only b (f i)) (l.others i q)) (ap (λ (b : Bool). only b (f k)) l.gone) n in-n
      ∙ ap (λ (b : Bool). only b (f k) + sum_to (λ i. only (has r i) (f i)) n) l.found

  pub max-lowest : (f : ℕ → ℕ) → max_to (λ i. only (has w i) (f i)) n ≡ max (f k) (max_to (λ i. only (has r i) (f i)) n)
  max-lowest f =
      max-but-one k (λ i q. ap (λ (b : Bool). only b (f i)) (l.others i q)) (ap (λ (b : Bool). only b (f k)) l.gone) n in-n
      ∙ ap (λ (b : Bool). max (only b (f k)) (max_to (λ i. only (has r i) (f i)) n)) l.found

  pub each-lowest : (f : ℕ → ℕ) → each n w f ≡ f k ∷ each n r f
  unfolding each
  each-lowest f =
      let part : Bool → ℕ → List ℕ = λ b i. only_l b (f i ∷ []) in
      cat-but-first k n (λ i b. ap (λ (t : Bool). part t i) (l.clear i b)) (λ i b. ap (λ (t : Bool). part t i) (not-up-to l i b))
      (λ i b. ap (λ (t : Bool). part t i) (l.others i (λ q. omega arith))) in-n
      ∙ ap (λ (t : Bool). part t k ++ cat_to (λ i. part (has r i) i) n) l.found

  pub size-lowest : size n w ≡ suc (size n r)
  size-lowest = sym (length-each n w (λ i. 0)) ∙ ap length (each-lowest (λ i. 0)) ∙ ap suc (length-each n r (λ i. 0))

  -- of k's pairs, and of the others'
  module _ (f : ℕ → ℕ → ℕ) where
    row : ℕ → ℕ → List ℕ
    row v i = cat_to (λ j. only_l (is_pair v i j) (f i j ∷ [])) n

    no-row : (v i : ℕ) → has v i ≡ false → row v i ≡ []
    unfolding row
    no-row v i e = cat-empty n (λ j lj. rw e refl)

    same-row : (i : ℕ) → k < i → row r i ≡ row w i
    unfolding row
    same-row i b = cat-ext n (λ j lj. ap (λ (t : Bool). only_l t (f i j ∷ [])) (go j (ℕ_discrete j k)))
      where
        go : (j : ℕ) → Dec (j ≡ k) → is_pair r i j ≡ is_pair w i j
        go j (yes e) = rw (e, le-ltb i k (omega arith)) (rw (and-false, and-false) refl)
        go j (no q) = rw (l.others i (λ q. omega arith), l.others j q) refl

    first-row : row w k ≡ each n r (f k)
    unfolding each row
    first-row = cat-ext n (λ j lj. ap (λ (t : Bool). only_l t (f k j ∷ [])) (go j (dec_lt k j)))
      where
        go : (j : ℕ) → Dec (k < j) → is_pair w k j ≡ has r j
        go j (yes b) = rw (l.found, lt-ltb k j b, and-true, l.others j (λ q. omega arith)) refl
        go j (no b) = rw (not-up-to l j (omega (arith, b)), le-ltb k j (omega (arith, b)), l.found) (and-false (has w j))

    pub each_pair-lowest : each_pair n w f ≡ each n r (f k) ++ each_pair n r f
    unfolding each_pair row
    each_pair-lowest =
        cat-but-first {f = row w} {g = row r} k n (λ i b. no-row w i (l.clear i b)) (λ i b. no-row r i (not-up-to l i b)) same-row in-n
        ∙ ap (λ (v : List ℕ). v ++ cat_to (row r) n) first-row

  pub pairs-lowest : pairs n w ≡ size n r + pairs n r
  pairs-lowest =
      let none : ℕ → ℕ → ℕ = λ i j. 0 in
      sym (length-each_pair n w none) ∙ ap length (each_pair-lowest none) ∙ length-append (each n r (none k)) (each_pair n r none)
      ∙ ap₂ ◌+◌ (length-each n r (none k)) (length-each_pair n r none)
