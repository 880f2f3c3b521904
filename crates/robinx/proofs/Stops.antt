-- What each place from P on keeps, holds at N if it holds at P: so sums and largest values whose terms are 0 from P on may stop at P.
-- Assumes nothing.
use mathlib.Core.Path.{◌≡◌, refl, ap, subst, ◌∙◌}
use Prim.Native.Nat.{ℕ, suc, ◌+◌, ◌<◌, ◌≤◌}
use native.Mathlib.Omega.{arith}
use native.Mathlib.Decide.{le_ind}
use native.Mathlib.Numerals.{add-one}
use Rattle.robinx.specs.Sums.{sum_to, max_to}

module _ (P N : ℕ) (l : P ≤ N) where
  pub passed : (F : ℕ → Type 0) → ((k : ℕ) → P ≤ k → k < N → F k → F (k + 1)) → F P → F N
  passed F keep s =
      le_ind (λ k. k ≤ N → F k) (λ h. s) (λ k a ih h. subst F (add-one k) (keep k a (omega arith) (ih (omega arith)))) N l (omega arith)

  pub stop : {A : Type 0} (F : ℕ → A) → ((k : ℕ) → P ≤ k → k < N → F (suc k) ≡ F k) → F N ≡ F P
  stop F same = passed (λ k. F k ≡ F P) (λ k a b e. ap F (add-one k) ∙ same k a b ∙ e) refl

  pub sum-stop : (f : ℕ → ℕ) → ((k : ℕ) → P ≤ k → k < N → f k ≡ 0) → sum_to f N ≡ sum_to f P
  unfolding sum_to
  sum-stop f none = stop (sum_to f) (λ k a b. omega (arith, none k a b))

  pub max-stop : (f : ℕ → ℕ) → ((k : ℕ) → P ≤ k → k < N → f k ≡ 0) → max_to f N ≡ max_to f P
  unfolding max_to
  max-stop f none = stop (max_to f) (λ k a b. omega (arith, none k a b))
