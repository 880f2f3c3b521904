-- Sums, largest values, lists and tests of equal terms are equal. Assumes nothing.
use mathlib.Core.Path.{◌≡◌, refl, ap, ap₂}
use mathlib.Core.List.{List, [], ◌∷◌, ◌++◌}
use mathlib.Core.Bool.{Bool, true, false, ◌&&◌, ◌||◌}
use Prim.Native.Nat.{ℕ, zero, suc, ◌+◌, ◌^◌, ◌<◌, ◌≤◌, max}
use native.Mathlib.Omega.{arith}
use native.Mathlib.Nat.{div-eq_of_lt}
use lib.Dec.{leb, ltb}
use lib.Pow.{pow_mono}
use borrow.Author.Tests.{eqb-true, leb-true, leb-false, le-leb}
use Rattle.std.proofs.lemmas.Bool.{and_parts}
use Rattle.robinx.specs.Sums.{sum_to, max_to, cat_to, any_to, only, only_l}
use Rattle.robinx.specs.Groups.{bit, has, reaches, is_pair}
use Rattle.robinx.specs.Timetable.{last_was, last_slot}
use Rattle.robinx.specs.Deviations.{each, each_pair, over, worst}

pub only-ext : (b : Bool) {u v : ℕ} → (b ≡ true → u ≡ v) → only b u ≡ only b v
only-ext true h = h refl
only-ext false h = refl

pub only_l-ext : (b : Bool) {u v : List ℕ} → (b ≡ true → u ≡ v) → only_l b u ≡ only_l b v
only_l-ext true h = h refl
only_l-ext false h = refl

pub sum-ext : {f g : ℕ → ℕ} (n : ℕ) → ((k : ℕ) → k < n → f k ≡ g k) → sum_to f n ≡ sum_to g n
unfolding sum_to
sum-ext zero h = refl
sum-ext (suc n) h = ap₂ ◌+◌ (sum-ext n (λ k l. h k (omega arith))) (h n (omega arith))

pub max-ext : {f g : ℕ → ℕ} (n : ℕ) → ((k : ℕ) → k < n → f k ≡ g k) → max_to f n ≡ max_to g n
unfolding max_to
max-ext zero h = refl
max-ext (suc n) h = ap₂ max (max-ext n (λ k l. h k (omega arith))) (h n (omega arith))

pub cat-ext : {f g : ℕ → List ℕ} (n : ℕ) → ((k : ℕ) → k < n → f k ≡ g k) → cat_to f n ≡ cat_to g n
unfolding cat_to
cat-ext zero h = refl
cat-ext (suc n) h = ap₂ ◌++◌ (cat-ext n (λ k l. h k (omega arith))) (h n (omega arith))

pub any-ext : {p q : ℕ → Bool} (n : ℕ) → ((k : ℕ) → k < n → p k ≡ q k) → any_to p n ≡ any_to q n
unfolding any_to
any-ext zero h = refl
any-ext (suc n) h = ap₂ ◌||◌ (any-ext n (λ k l. h k (omega arith))) (h n (omega arith))

pub each-ext : (n T : ℕ) {f g : ℕ → ℕ} → ((t : ℕ) → t < n → has T t ≡ true → f t ≡ g t) → each n T f ≡ each n T g
unfolding each
each-ext n T h = cat-ext n (λ t l. only_l-ext (has T t) (λ e. ap (λ (v : ℕ). v ∷ []) (h t l e)))

pub each_pair-ext : (n T : ℕ) {f g : ℕ → ℕ → ℕ}
    → ((i j : ℕ) → i < n → j < n → has T i ≡ true → has T j ≡ true → f i j ≡ g i j)
    → each_pair n T f ≡ each_pair n T g
unfolding each_pair
each_pair-ext n T h =
    cat-ext n (λ i li. cat-ext n (λ j lj. only_l-ext (is_pair T i j) (λ e.
    let m = and_parts (has T i) (has T j) (and_parts (has T i && has T j) (ltb i j) e).0 in
    ap (λ (v : ℕ). v ∷ []) (h i j li lj m.0 m.1))))

pub over-ext : (P S : ℕ) {f g : ℕ → ℕ} → ((k : ℕ) → k < P → has S k ≡ true → f k ≡ g k) → over P S f ≡ over P S g
unfolding over
over-ext P S h = sum-ext P (λ k l. only-ext (has S k) (h k l))

pub worst-ext : (P S : ℕ) {f g : ℕ → ℕ} → ((k : ℕ) → k < P → has S k ≡ true → f k ≡ g k) → worst P S f ≡ worst P S g
unfolding worst
worst-ext P S h = max-ext P (λ k l. only-ext (has S k) (h k l))

-- a member's place, and every place before it, is at or before the last member
pub has-reaches : (S : ℕ) {k a : ℕ} → has S k ≡ true → a ≤ k → reaches S a ≡ true
has-reaches S {k} {a} h l = le-leb (2 ^ a) S (go (leb (2 ^ k) S) refl)
  where
    go : (b : Bool) → leb (2 ^ k) S ≡ b → 2 ^ a ≤ S
    go true e = omega (arith, pow_mono l, leb-true (2 ^ k) S e)
    go false e = omega (arith, eqb-true (bit S k) 1 h, div-eq_of_lt (leb-false (2 ^ k) S e))

-- the last game's side and slot, of equal tests of slots
pub last_was-ext : {p p' q q' : ℕ → Bool} (k : ℕ)
    → ((a : ℕ) → a < k → p a ≡ p' a)
    → ((a : ℕ) → a < k → q a ≡ q' a)
    → last_was p q k ≡ last_was p' q' k
unfolding last_was
last_was-ext zero h g = refl
last_was-ext (suc k) h g =
    rw (h k (omega arith), g k (omega arith), last_was-ext k (λ a l. h a (omega arith)) (λ a l. g a (omega arith)))

pub last_slot-ext : {p q : ℕ → Bool} (k : ℕ) → ((a : ℕ) → a < k → p a ≡ q a) → last_slot p k ≡ last_slot q k
unfolding last_slot
last_slot-ext zero h = refl
last_slot-ext (suc k) h = rw (h k (omega arith), last_slot-ext k (λ a l. h a (omega arith)))
