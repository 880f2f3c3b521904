-- Trips by equal tests of slots, trips of a team that plays away in none from P on, and how large sums over them are. Assumes nothing.
use mathlib.Core.Path.{◌≡◌, refl, ap, ap₂, ◌∙◌}
use mathlib.Core.Bool.{Bool, false, ◌&&◌, ◌||◌, not, and-false}
use Prim.Native.Nat.{ℕ, suc, ◌*◌, ◌<◌, ◌≤◌}
use native.Mathlib.Omega.{arith}
use lib.Dec.{leb}
use Rattle.robinx.specs.Sums.{only}
use Rattle.robinx.specs.Groups.{has}
use Rattle.robinx.specs.Timetable.{last_was, starts_trip, on_trip, along_trip, trip_counts, over_trips}
use Rattle.robinx.proofs.Sums.{only-bound, sum_bound}
use Rattle.robinx.proofs.Ext.{sum-ext, any-ext, last_was-ext}
use Rattle.robinx.proofs.Stops.{stop, sum-stop}

module _ {p p' q q' : ℕ → Bool} (P : ℕ) (away : (k : ℕ) → k < P → p k ≡ p' k) (home : (k : ℕ) → k < P → q k ≡ q' k) where
  pub starts_trip-ext : (a : ℕ) → a < P → starts_trip p q a ≡ starts_trip p' q' a
  unfolding starts_trip
  starts_trip-ext a l =
      ap₂ (λ (x y : Bool). x && not y) (away a l)
      (last_was-ext a (λ k h. ap₂ ◌||◌ (away k (omega arith)) (home k (omega arith))) (λ k h. away k (omega arith)))

  pub on_trip-ext : (a k : ℕ) → k < P → on_trip p q a k ≡ on_trip p' q' a k
  unfolding on_trip
  on_trip-ext a k l =
      ap₂ (λ (x y : Bool). leb a k && x && not y) (away k l) (any-ext (suc k) (λ i h. ap (◌&&◌ (leb a i)) (home i (omega arith))))

  pub along_trip-ext : (a : ℕ) {f g : ℕ → ℕ} → ((k : ℕ) → k < P → f k ≡ g k) → along_trip p q P a f ≡ along_trip p' q' P a g
  unfolding along_trip
  along_trip-ext a h = sum-ext P (λ k l. ap₂ only (on_trip-ext a k l) (h k l))

  trip_counts-ext : (S a : ℕ) → a < P → trip_counts p q P S a ≡ trip_counts p' q' P S a
  unfolding trip_counts
  trip_counts-ext S a l =
      rw (
        starts_trip-ext a l,
        along_trip-ext a {f = λ k. 1} (λ k h. refl),
        last_was-ext {q = has S} P (λ k h. on_trip-ext a k h) (λ k h. refl),
      )

  pub over_trips-ext : (S : ℕ) {f g : ℕ → ℕ} → ((a : ℕ) → a < P → f a ≡ g a) → over_trips p q P S f ≡ over_trips p' q' P S g
  unfolding over_trips
  over_trips-ext S h = sum-ext P (λ a l. ap₂ only (trip_counts-ext S a l) (h a l))

-- no away game from P on
module _ (P N : ℕ) (l : P ≤ N) (p q : ℕ → Bool) (none : (k : ℕ) → P ≤ k → k < N → p k ≡ false) where
  off-trip : (a k : ℕ) → P ≤ k → k < N → on_trip p q a k ≡ false
  unfolding on_trip
  off-trip a k h h' = rw (none k h h', and-false) refl

  pub along_trip-stop : (a : ℕ) (f : ℕ → ℕ) → along_trip p q N a f ≡ along_trip p q P a f
  unfolding along_trip
  along_trip-stop a f = sum-stop P N l _ (λ k h h'. ap (λ (b : Bool). only b (f k)) (off-trip a k h h'))

  trip_counts-stop : (S a : ℕ) → trip_counts p q N S a ≡ trip_counts p q P S a
  unfolding trip_counts last_was
  trip_counts-stop S a =
      rw (along_trip-stop a (λ k. 1), stop P N l (last_was (on_trip p q a) (has S)) (λ k h h'. rw (off-trip a k h h')))

  pub over_trips-stop : (S : ℕ) (f : ℕ → ℕ) → over_trips p q N S f ≡ over_trips p q P S f
  unfolding over_trips trip_counts starts_trip
  over_trips-stop S f =
      sum-ext N (λ a h. ap (λ (b : Bool). only b (f a)) (trip_counts-stop S a))
      ∙ sum-stop P N l (λ a. only (trip_counts p q P S a) (f a)) (λ a h h'. rw (none a h h') refl)

-- sums
pub along_trip-le : (p q : ℕ → Bool) (P a : ℕ) {f : ℕ → ℕ} → ((k : ℕ) → k < P → f k ≤ 1) → along_trip p q P a f ≤ P
unfolding along_trip
along_trip-le p q P a h = omega (arith, sum_bound P 1 (λ k l. only-bound (on_trip p q a k) (h k l)))

pub over_trips-le : (p q : ℕ → Bool) (P S B : ℕ) {f : ℕ → ℕ} → ((a : ℕ) → a < P → f a ≤ B) → over_trips p q P S f ≤ P * B
unfolding over_trips
over_trips-le p q P S B h = sum_bound P B (λ a l. only-bound (trip_counts p q P S a) (h a l))
