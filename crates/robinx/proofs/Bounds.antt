-- How large deviations and penalties are. Of a list's functions: no assumption. Of a constraint's deviations: at most 32 teams and 64
-- slots, no team with two games in a slot, and bytes for kmin, kmax, w and weight.
use mathlib.Core.Path.{◌≡◌}
use mathlib.Core.List.{List, [], ◌∷◌, ◌++◌}
use mathlib.Core.Bool.{Bool, true, false, ◌&&◌, cond}
use Prim.Native.Nat.{ℕ, zero, suc, ◌+◌, ◌*◌, ◌-◌, ◌^◌, ◌<◌, ◌≤◌}
use native.Mathlib.Omega.{arith}
use native.Mathlib.Nat.{mul-le-mul_right, mul-le-mul_left, mul-le-mul, le_trans, le_of_eq}
use lib.Dec.{eqb, ltb}
use lib.ListN.{length, get_or}
use Rattle.std.proofs.lemmas.Bool.{cond_both}
use Rattle.robinx.specs.Sums.{sum_to, cat_to, only, only_l}
use Rattle.robinx.specs.Season.{slots_of, most_teams, most_slots, most_byte}
use Rattle.robinx.specs.Groups.{has, size, is_pair, pairs}
use Rattle.robinx.specs.Timetable.{X, side, home_side, away_side, first_modes}
use Rattle.robinx.specs.Timetable.{games_with, games_in, games_against, games_up_to, between, games_between, plays, break_on, breaks_in, meet}
use Rattle.robinx.specs.Kinds.{kind_of, form_at}
use Rattle.robinx.specs.declared.Kind.{Kind}
use Rattle.robinx.specs.declared.Kind.TheVariants.{Ca1, Ca2, Ca3, Ca4, Ca5, Ga1, Br1, Br2, Br4, Fa1, Fa2, Se1, Unknown}
use Rattle.robinx.specs.Deviations.{each, each_pair, over, worst, outside, off_target, in_run, trips, trip_games, breaks, too_close, deviations_of, deviations, in_shape, entries}
use Rattle.robinx.specs.Deviations.{dev_ca1, dev_ca2, dev_ca3, dev_ca4, dev_ca5, dev_ga1, dev_br1, dev_br2, dev_br4, dev_fa1, dev_fa2, dev_se1}
use Rattle.robinx.specs.Penalty.{sum, sum_of_squares, largest, smallest, combine, penalty}
use Rattle.robinx.specs.declared.Constraint.{Constraint}
use Rattle.robinx.specs.declared.Shape.{Shape}
use Rattle.robinx.specs.declared.Shape.TheVariants.{Nothing, One, EachTeam, EachPair, OneOrEachSlot}
use Rattle.robinx.proofs.Sums.{only-le, only-bound, sum-le, sum_bound, max-bound, sum-scale, sum-swap}
use Rattle.robinx.proofs.GroupSizes.{size-le, pairs-size}
use Rattle.robinx.proofs.Trips.{along_trip-le, over_trips-le}

-- Lists of any numbers.
sum-append : (a b : List ℕ) → sum (a ++ b) ≡ sum a + sum b
unfolding sum
sum-append [] b = omega arith
sum-append (v ∷ a) b = omega (arith, sum-append a b)

pub element-le : (l : List ℕ) (i : ℕ) → get_or l i 0 ≤ sum l
unfolding sum
element-le [] i = omega arith
element-le (a ∷ l) zero = omega arith
element-le (a ∷ l) (suc i) = omega (arith, element-le l i)

-- a list whose numbers are at most B
pub sum-length-le : (B : ℕ) (l : List ℕ) → ((i : ℕ) → i < length l → get_or l i 0 ≤ B) → sum l ≤ length l * B
unfolding sum
sum-length-le B [] h = omega arith
sum-length-le B (a ∷ l) h = omega (arith, h 0 (omega arith), sum-length-le B l (λ i k. h (suc i) (omega arith)))

self-le : (s : ℕ) → s ≤ s * s
self-le zero = omega arith
self-le (suc s) = omega arith

squares-le : (l : List ℕ) → sum_of_squares l ≤ sum l * sum l
unfolding sum_of_squares sum
squares-le [] = omega arith
squares-le (a ∷ l) = omega (arith, squares-le l)

pub largest-le : (l : List ℕ) → largest l ≤ sum l
unfolding largest sum
largest-le [] = omega arith
largest-le (a ∷ l) = omega (arith, largest-le l)

pub smallest-le : (l : List ℕ) → smallest l ≤ sum l
unfolding smallest sum
smallest-le [] = omega arith
smallest-le (a ∷ []) = omega arith
smallest-le (a ∷ (b ∷ l)) = omega (arith, smallest-le (b ∷ l))

pub combine-le : (f : ℕ) (l : List ℕ) → combine f l ≤ sum l * sum l
unfolding combine
combine-le f l = go (eqb f 1) (eqb f 2) (eqb f 3) (eqb f 4)
  where
    go : (a b c d : Bool)
        → cond a (sum l) (cond b (sum l * sum l) (cond c (sum_of_squares l) (cond d (smallest l) (largest l)))) ≤ sum l * sum l
    go true b c d = self-le (sum l)
    go false true c d = omega arith
    go false false true d = squares-le l
    go false false false true = le_trans (smallest-le l) (self-le (sum l))
    go false false false false = le_trans (largest-le l) (self-le (sum l))

-- Lists of one number a member or a pair.
sum-cat-le : (f : ℕ → List ℕ) {g : ℕ → ℕ} (n : ℕ) → ((k : ℕ) → k < n → sum (f k) ≤ g k) → sum (cat_to f n) ≤ sum_to g n
unfolding cat_to sum_to sum
sum-cat-le f zero h = omega arith
sum-cat-le f (suc n) h = omega (arith, sum-append (cat_to f n) (f n), sum-cat-le f n (λ k l. h k (omega arith)), h n (omega arith))

sum-only-le : (b : Bool) (v : ℕ) → sum (only_l b (v ∷ [])) ≤ v
unfolding sum
sum-only-le true v = omega arith
sum-only-le false v = omega arith

each-bound : (n T B : ℕ) {f : ℕ → ℕ} → ((t : ℕ) → t < n → f t ≤ B) → sum (each n T f) ≤ n * B
unfolding each
each-bound n T B h = le_trans (sum-cat-le _ n (λ t l. sum-only-le (has T t) _)) (sum_bound n B h)

each_pair-bound : (n T : ℕ) (f : ℕ → ℕ → ℕ) → sum (each_pair n T f) ≤ sum_to (λ i. sum_to (f i) n) n
unfolding each_pair
each_pair-bound n T f = sum-cat-le _ n (λ i li. sum-cat-le _ n (λ j lj. sum-only-le (is_pair T i j) (f i j)))

-- How many deviations there are.
pub pairs_small : (n T : ℕ) → n ≤ most_teams → pairs n T ≤ 496
pairs_small n T h = go (size n T) (pairs-size T n) (omega (arith, size-le T n))
  where
    go : (s : ℕ) → 2 * pairs n T + s ≡ s * s → s ≤ most_teams → pairs n T ≤ 496
    go zero e l = omega arith
    go (suc r) e l = let z : r ≤ 31 = omega arith in omega (arith, mul-le-mul z l)

module _ (n P : ℕ) (teams : n ≤ most_teams) (slots : P ≤ most_slots) (c : Constraint) where
  shape-small : (h : Shape) → in_shape h n P c ≤ 496
  shape-small Nothing = omega arith
  shape-small One = omega arith
  shape-small EachTeam = omega (arith, size-le c.t1 n)
  shape-small EachPair = pairs_small n c.t1 teams
  shape-small OneOrEachSlot =
      cond_both (first_modes c.mode) 1 (size P (slots_of c)) (λ v. v ≤ 496) (λ e. omega arith) (λ e. omega (arith, size-le (slots_of c) P))

  pub entries-small : entries n P c ≤ 496
  unfolding entries
  entries-small = shape-small (form_at c.kind).shape

module _ (n P : ℕ) (teams : n ≤ most_teams) (slots : P ≤ most_slots) (x : X)
    (valid : (t k : ℕ) → t < n → k < P → sum_to (λ j. x t j k + x j t k) n ≤ 1) where
  games_with-le : (d t j k : ℕ) → games_with x d t j k ≤ x t j k + x j t k
  unfolding games_with
  games_with-le d t j k = omega (arith, only-le (has d 0) (x t j k), only-le (has d 1) (x j t k))

  pub games_in-le : (d t k : ℕ) → t < n → k < P → games_in n x d t k ≤ 1
  unfolding games_in
  games_in-le d t k lt lk = le_trans (sum-le n (λ j l. games_with-le d t j k)) (valid t k lt lk)

  pub games_against-le : (d T t k : ℕ) → t < n → k < P → games_against n x d T t k ≤ 1
  unfolding games_against
  games_against-le d T t k lt lk = le_trans (sum-le n (λ j l. only-bound (has T j) (games_with-le d t j k))) (valid t k lt lk)

  pub games_up_to-le : (d T t s : ℕ) → t < n → s ≤ P → games_up_to n x d T t s ≤ s
  unfolding games_up_to
  games_up_to-le d T t s lt ls = omega (arith, sum_bound s 1 (λ k l. games_against-le d T t k lt (omega arith)))

  pub games_between-le : (d T1 T2 k : ℕ) → k < P → games_between n x d T1 T2 k ≤ most_teams
  unfolding games_between
  games_between-le d T1 T2 k lk =
      omega (arith, sum_bound n 1 (λ i li. le_trans (sum-le n (λ j lj. row i j)) (valid i k li lk)))
    where
      row : (i j : ℕ) → only (between d T1 T2 i j) (x i j k) ≤ x i j k + x j i k
      row i j = only-bound (between d T1 T2 i j) (omega arith)

  pub breaks_in-le : (d t k : ℕ) → breaks_in n x d t k ≤ 2
  unfolding breaks_in
  breaks_in-le d t k =
      omega (arith, only-le (has d 0 && break_on n x home_side t k) 1, only-le (has d 1 && break_on n x away_side t k) 1)

  close-le : (w m : ℕ) (b : Bool) {v : ℕ} → v ≤ w → only (ltb 0 m && b) v ≤ w * m
  close-le w zero b h = omega arith
  close-le w (suc m) b {v} h = only-bound (ltb 0 (suc m) && b) (omega arith)

  -- a team's meetings with all others are its games
  closeness-le : (w i : ℕ) → i < n → sum_to (λ j. sum_to (too_close (meet x i j) w) P) n ≤ most_slots * w
  unfolding too_close meet
  closeness-le w i li =
      le_trans (sum-le n (λ j lj. sum-le P (λ k lk. close-le w (x i j k + x j i k) _ (omega arith))))
      (le_trans (le_of_eq (sum-swap (λ j k. w * (x i j k + x j i k)) n P))
      (le_trans (sum_bound P w (λ k lk. omega (arith, sum-scale w (λ j. x i j k + x j i k) n, mul-le-mul_left w (valid i k li lk))))
      (mul-le-mul_right w slots)))

  module _ (c : Constraint) (low : c.kmin ≤ 255) (high : c.kmax ≤ 255) (width : c.w ≤ 255) where
    -- the sides of the mode
    abbrev d : ℕ
    d = side c.mode

    over-le : (B : ℕ) {f : ℕ → ℕ} → ((k : ℕ) → k < P → f k ≤ B) → over P (slots_of c) f ≤ most_slots * B
    unfolding over
    over-le B h = le_trans (sum_bound P B (λ k l. only-bound (has (slots_of c) k) (h k l))) (mul-le-mul_right B slots)

    worst-le : {f : ℕ → ℕ} → ((k : ℕ) → k < P → f k ≤ most_slots) → worst P (slots_of c) f ≤ most_slots
    unfolding worst
    worst-le h = max-bound P most_slots (λ k l. only-bound (has (slots_of c) k) (h k l))

    breaks-le : (t : ℕ) → breaks n P c x t ≤ 128
    unfolding breaks
    breaks-le t = over-le 2 (λ k l. breaks_in-le d t k)

    -- at most a trip a slot, with games in as many
    trips-le : (t : ℕ) → t < n → trips n P c x t (λ a. outside c.kmin c.kmax (trip_games n P c x t a)) ≤ 65 * most_byte
    unfolding trips trip_games
    trips-le t lt =
        le_trans
        (over_trips-le (plays n x away_side t) (plays n x home_side t) P (slots_of c) 255 (λ a la.
        omega (arith, along_trip-le (plays n x away_side t) (plays n x home_side t) P a (λ k lk. games_against-le away_side c.t2 t k lt lk))))
        (omega arith)

    off-le : (b : Bool) (B : ℕ) {v : ℕ} → v ≤ B → 255 ≤ B → off_target b c.kmax v ≤ B
    off-le true B h l = omega arith
    off-le false B h l = omega arith

    -- a number a team, each at most what CA3 may add up
    teams-le : (T : ℕ) {f : ℕ → ℕ} → ((t : ℕ) → t < n → f t ≤ 65 * most_byte) → sum (each n T f) ≤ 530400
    teams-le T h = omega (arith, each-bound n T (65 * most_byte) h)

    bound_of : (k : Kind) → sum (deviations_of k n P c x) ≤ 530400
    unfolding deviations_of dev_ca1 dev_ca2 in_run dev_ca3 dev_ca4 dev_ca5 dev_ga1 dev_br1 dev_br2 dev_br4 dev_fa1 dev_fa2 dev_se1 sum
    bound_of Ca1 = teams-le c.t1 (λ t lt. omega (arith, over-le 1 (λ k lk. games_in-le d t k lt lk)))
    bound_of Ca2 = teams-le c.t1 (λ t lt. omega (arith, over-le 1 (λ k lk. games_against-le d c.t2 t k lt lk)))
    bound_of Ca3 = teams-le c.t1 (λ t lt. le_trans
        (sum_bound (suc P - c.w) 255 (λ a la. omega (arith, sum_bound c.w 1 (λ e le. games_against-le d c.t2 t (a + e) lt (omega arith)))))
        (omega arith))
    bound_of Ca4 =
        cond_both (first_modes c.mode) _ _ (λ l. sum l ≤ 530400)
        (λ e. omega (arith, over-le most_teams (λ k lk. games_between-le d c.t1 c.t2 k lk)))
        (λ e. le_trans (each-bound P (slots_of c) 255 (λ k lk. omega (arith, games_between-le d c.t1 c.t2 k lk))) (omega arith))
    bound_of Ca5 = teams-le c.t1 trips-le
    bound_of Ga1 = omega (arith, over-le most_teams (λ k lk. games_between-le home_side c.t1 c.t2 k lk))
    bound_of Br1 = teams-le c.t1 (λ t lt. off-le (first_modes c.mode) (65 * most_byte) (omega (arith, breaks-le t)) (omega arith))
    bound_of Br2 =
        omega (
          arith,
          off-le (first_modes c.mode) (most_teams * 128)
              (le_trans (sum_bound n 128 (λ t lt. only-bound (has c.t1 t) (breaks-le t))) (omega arith)) (omega arith),
        )
    bound_of Br4 = teams-le c.t1 (λ t lt. omega arith)
    bound_of Fa1 =
        teams-le c.t1 (λ t lt. le_trans (worst-le (λ k lk.
        omega (arith, games_up_to-le home_side c.t1 t (suc k) lt lk, games_up_to-le away_side c.t1 t (suc k) lt lk))) (omega arith))
    bound_of Fa2 =
        le_trans (each_pair-bound n c.t1 _)
        (le_trans (sum_bound n (most_teams * most_slots) (λ i li. le_trans (sum_bound n most_slots (λ j lj. worst-le (λ k lk.
        omega (arith, games_up_to-le d c.t1 i (suc k) li lk, games_up_to-le d c.t1 j (suc k) lj lk)))) (omega arith))) (omega arith))
    bound_of Se1 =
        le_trans (each_pair-bound n c.t1 _)
        (le_trans (sum_bound n (most_slots * most_byte) (λ i li. omega (arith, closeness-le c.w i li))) (omega arith))
    bound_of Unknown = omega arith

    pub sum-small : sum (deviations n P c x) ≤ 530400
    unfolding deviations
    sum-small = bound_of (kind_of c.kind)

    pub each-small : (i : ℕ) → get_or (deviations n P c x) i 0 ≤ 530400
    each-small i = le_trans (element-le (deviations n P c x) i) sum-small

    pub penalty-small : c.weight ≤ 255 → penalty c (deviations n P c x) < 2 ^ 50
    unfolding penalty
    penalty-small h =
        omega (arith, mul-le-mul h (le_trans (combine-le c.function (deviations n P c x)) (mul-le-mul sum-small sum-small)))
