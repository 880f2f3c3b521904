-- Sums and tables that differ at one point. Assumes nothing.
use mathlib.Core.Path.{◌≡◌, refl, sym}
use mathlib.Core.List.{List}
use mathlib.Core.Bool.{Bool, ◌&&◌}
use Prim.Native.Nat.{ℕ, zero, suc, ◌+◌, ◌<◌}
use native.Mathlib.Omega.{arith}
use native.Mathlib.Decide.{ℕ_discrete}
use lib.Dec.{eqb}
use lib.ListN.{length, get_or, set}
use Rattle.std.proofs.lemmas.Bool.Decides.{nat_tests}
use Rattle.std.proofs.lemmas.Grind.{common_steps}
use borrow.Author.Tests.{eq-eqb, ne_eqb}
use Rattle.robinx.specs.Sums.{sum_to, only}
use Rattle.robinx.specs.Groups.{bit}
use Rattle.robinx.proofs.Sums.{sum-zero}
use Rattle.robinx.proofs.Ext.{sum-ext}
use Rattle.masks.specs.Masks.{joined, without}
use Rattle.masks.proofs.OneSlot.{joined-adds, without-takes}

-- terms that are equal but at g
pub sum-change : {f h : ℕ → ℕ} (n g : ℕ)
    → g < n
    → ((k : ℕ) → k < n → (k ≡ g → ⊥) → h k ≡ f k)
    → sum_to h n + f g ≡ sum_to f n + h g
unfolding sum_to
sum-change zero g l e = absurd (omega arith)
sum-change {f} {h} (suc n) g l e = go (ℕ_discrete g n) (λ m. sum-change n g m (λ k lk. e k (omega arith)))
  where
    go : Dec (g ≡ n) → (g < n → sum_to h n + f g ≡ sum_to f n + h g) → sum_to h n + h n + f g ≡ sum_to f n + f n + h g
    go (yes p) ih = rw p (omega (arith, sum-ext {f = h} {g = f} n (λ k lk. e k (omega arith) (λ q. omega arith))))
    go (no p) ih = omega (arith, ih (omega arith), e n (omega arith) (λ q. p (sym q)))

-- a sum with one term
pub sum-point : (n j : ℕ) (b : Bool) → j < n → sum_to (λ z. only (eqb j z && b) 1) n ≡ only b 1
sum-point n j b l =
    let at : only (eqb j j && b) 1 ≡ only b 1 = rw (eq-eqb j j refl) in
    omega (
      arith,
      sum-change {f = λ z. 0} {h = λ z. only (eqb j z && b) 1} n j l (λ k lk p. rw (ne_eqb j k (λ q. p (sym q)))),
      sum-zero {f = λ z. 0} n (λ k lk. refl),
    )

-- w' is the mask w with slot k besides
abbrev pub OneMore : ℕ → ℕ → ℕ → Type 0
OneMore k w w' = (a : ℕ) → bit w' a ≡ bit w a + only (eqb k a) 1

pub joined-more : (w k : ℕ) → bit w k ≡ 0 → OneMore k w (joined w k)
joined-more w k free a = grind (arith, nat_tests, joined-adds w k free a)

pub without-less : (w k : ℕ) → bit w k ≡ 1 → OneMore k (without w k) w
without-less w k here a = grind (arith, nat_tests, without-takes w k here a)

-- l' is the table l with slot k in word q besides
abbrev pub Gains : ℕ → ℕ → List ℕ → List ℕ → Type 0
Gains q k l l' = (p a : ℕ) → bit (get_or l' p 0) a ≡ bit (get_or l p 0) a + only (eqb q p && eqb k a) 1

module _ (l : List ℕ) (q k : ℕ) (low : q < length l) where
  pub set-gains : (v : ℕ) → OneMore k (get_or l q 0) v → Gains q k l (set l q v)
  set-gains v more p a = grind (arith, common_steps, low, more a)

  pub set-loses : (v : ℕ) → OneMore k v (get_or l q 0) → Gains q k (set l q v) l
  set-loses v more p a = grind (arith, common_steps, low, more a)
