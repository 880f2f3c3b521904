-- Agreement: a constraint's deviations are the same over any two timetables that agree on its scope. Assumes nothing.
use mathlib.Core.Path.{◌≡◌, refl, ap, ap₂}
use mathlib.Core.List.{[], ◌∷◌}
use mathlib.Core.Bool.{Bool, true, false, ◌&&◌, ◌||◌, cond, or-true, or-false}
use Prim.Native.Nat.{ℕ, suc, ◌+◌, ◌-◌, ◌<◌, ◌≤◌}
use native.Mathlib.Omega.{arith}
use lib.Dec.{ltb}
use Rattle.robinx.specs.Sums.{sum_to, dist}
use Rattle.robinx.specs.Season.{slots_of}
use Rattle.robinx.specs.Groups.{has, reaches}
use Rattle.robinx.specs.Timetable.{X, side, home_side, away_side, any_side, first_modes}
use Rattle.robinx.specs.Timetable.{games_with, games_in, games_against, games_up_to, between, games_between, plays, break_on, breaks_in, meet}
use Rattle.robinx.specs.Kinds.{kind_of, form_of, form_at}
use Rattle.robinx.specs.declared.Kind.{Kind}
use Rattle.robinx.specs.declared.Kind.TheVariants.{Ca1, Ca2, Ca3, Ca4, Ca5, Ga1, Br1, Br2, Br4, Fa1, Fa2, Se1, Unknown}
use Rattle.robinx.specs.Deviations.{outside, off_target, in_run, trips, trip_games, breaks, too_close, deviations_of, deviations}
use Rattle.robinx.specs.Deviations.{dev_ca1, dev_ca2, dev_ca3, dev_ca4, dev_ca5, dev_ga1, dev_br1, dev_br2, dev_br4, dev_fa1, dev_fa2, dev_se1}
use Rattle.robinx.specs.Touch.{teams_touch, slot_touches, scope_of, scope}
use Rattle.robinx.specs.declared.Constraint.{Constraint}
use Rattle.robinx.proofs.Ext.{only-ext, sum-ext, each-ext, each_pair-ext, over-ext, worst-ext, has-reaches, last_was-ext, last_slot-ext}
use Rattle.robinx.proofs.Trips.{along_trip-ext, over_trips-ext}

abbrev pub Agree : (ℕ → ℕ → ℕ → Bool) → ℕ → ℕ → X → X → Type 0
Agree r n P x y = (i j k : ℕ) → i < n → j < n → k < P → r i j k ≡ true → x i j k ≡ y i j k

-- the same games between t and j in slot k
abbrev Same : X → X → ℕ → ℕ → ℕ → Type 0
Same x y t j k = (x t j k ≡ y t j k) × (x j t k ≡ y j t k)

-- a game that is counted between the groups is one that the scope names
counted : (p q a b s : Bool) → (p && a || q && b) ≡ true → s ≡ true → (a || b) && s ≡ true
counted p q true b s h e = e
counted p q false true s h e = e
counted true true false false s h e = h
counted true false false false s h e = h
counted false true false false s h e = h
counted false false false false s h e = h

module _ (n P : ℕ) (x y : X) where
  -- What the deviations are written with.
  games_with-agree : (d t j k : ℕ) → Same x y t j k → games_with x d t j k ≡ games_with y d t j k
  unfolding games_with
  games_with-agree d t j k h = cc

  games_in-agree : (d t k : ℕ) → ((j : ℕ) → j < n → Same x y t j k) → games_in n x d t k ≡ games_in n y d t k
  unfolding games_in
  games_in-agree d t k h = sum-ext n (λ j l. games_with-agree d t j k (h j l))

  games_against-agree : (d T t k : ℕ)
      → ((j : ℕ) → j < n → has T j ≡ true → Same x y t j k)
      → games_against n x d T t k ≡ games_against n y d T t k
  unfolding games_against
  games_against-agree d T t k h = sum-ext n (λ j l. only-ext (has T j) (λ b. games_with-agree d t j k (h j l b)))

  games_up_to-agree : (d T t s : ℕ)
      → ((j k : ℕ) → j < n → k < s → has T j ≡ true → Same x y t j k)
      → games_up_to n x d T t s ≡ games_up_to n y d T t s
  unfolding games_up_to
  games_up_to-agree d T t s h = sum-ext s (λ k l. games_against-agree d T t k (λ j lj b. h j k lj l b))

  games_between-agree : (d T1 T2 k : ℕ)
      → ((i j : ℕ) → i < n → j < n → between d T1 T2 i j ≡ true → x i j k ≡ y i j k)
      → games_between n x d T1 T2 k ≡ games_between n y d T1 T2 k
  unfolding games_between
  games_between-agree d T1 T2 k h = sum-ext n (λ i li. sum-ext n (λ j lj. only-ext (between d T1 T2 i j) (h i j li lj)))

  -- team t has the same games in the slots up to and with k
  module _ (t k : ℕ) (h : (a j : ℕ) → a ≤ k → j < n → Same x y t j a) where
    plays-agree : (d a : ℕ) → a ≤ k → plays n x d t a ≡ plays n y d t a
    unfolding plays
    plays-agree d a l = ap (ltb 0) (games_in-agree d t a (λ j lj. h a j l lj))

    break_on-agree : (d : ℕ) → break_on n x d t k ≡ break_on n y d t k
    unfolding break_on
    break_on-agree d =
        ap₂ ◌&&◌ (plays-agree d k (omega arith))
        (last_was-ext k (λ a l. plays-agree any_side a (omega arith)) (λ a l. plays-agree d a (omega arith)))

    breaks_in-agree : (d : ℕ) → breaks_in n x d t k ≡ breaks_in n y d t k
    unfolding breaks_in
    breaks_in-agree d = rw (break_on-agree home_side, break_on-agree away_side)

  -- team t has the same games in all slots
  module _ (c : Constraint) (t : ℕ) (h : (k j : ℕ) → k < P → j < n → Same x y t j k) where
    side-agree : (d k : ℕ) → k < P → plays n x d t k ≡ plays n y d t k
    side-agree d k l = plays-agree t k (λ a j la lj. h a j (omega arith) lj) d k (omega arith)

    trip_games-agree : (a : ℕ) → trip_games n P c x t a ≡ trip_games n P c y t a
    unfolding trip_games
    trip_games-agree a =
        along_trip-ext P (side-agree away_side) (side-agree home_side) a (λ k l. games_against-agree away_side c.t2 t k (λ j lj b. h k j l lj))

    trips-agree : {f g : ℕ → ℕ} → ((a : ℕ) → f a ≡ g a) → trips n P c x t f ≡ trips n P c y t g
    unfolding trips
    trips-agree e = over_trips-ext P (side-agree away_side) (side-agree home_side) (slots_of c) (λ a l. e a)

  meet-agree : (i j k : ℕ) → Same x y i j k → meet x i j k ≡ meet y i j k
  unfolding meet
  meet-agree i j k h = ap₂ (λ (a b : ℕ). ltb 0 (a + b)) h.0 h.1

  closeness-agree : (w i j : ℕ) → ((k : ℕ) → k < P → Same x y i j k)
      → sum_to (too_close (meet x i j) w) P ≡ sum_to (too_close (meet y i j) w) P
  unfolding too_close
  closeness-agree w i j h =
      sum-ext P (λ k l. rw (meet-agree i j k (h k l), last_slot-ext k (λ a la. meet-agree i j a (h a (omega arith)))))

  -- A law a kind.
  module _ (c : Constraint) where
    pub agree_ca1 : Agree (scope_of (form_of Ca1) c) n P x y → dev_ca1 n P c x ≡ dev_ca1 n P c y
    unfolding dev_ca1 form_of scope_of teams_touch slot_touches
    agree_ca1 h =
        each-ext n c.t1 (λ t lt m. ap (outside c.kmin c.kmax) (over-ext P (slots_of c) (λ k lk s.
        games_in-agree _ t k (λ j lj. (h t j k lt lj lk (simp (m, s)), h j t k lj lt lk (simp (m, s, or-true)))))))

    pub agree_ca2 : Agree (scope_of (form_of Ca2) c) n P x y → dev_ca2 n P c x ≡ dev_ca2 n P c y
    unfolding dev_ca2 form_of scope_of teams_touch slot_touches
    agree_ca2 h =
        each-ext n c.t1 (λ t lt m. ap (outside c.kmin c.kmax) (over-ext P (slots_of c) (λ k lk s.
        games_against-agree _ c.t2 t k (λ j lj b.
        (h t j k lt lj lk (simp (m, s, b)), h j t k lj lt lk (simp (m, s, b, or-true)))))))

    pub agree_ca3 : Agree (scope_of (form_of Ca3) c) n P x y → dev_ca3 n P c x ≡ dev_ca3 n P c y
    unfolding dev_ca3 in_run form_of scope_of teams_touch slot_touches
    agree_ca3 h =
        each-ext n c.t1 (λ t lt m. sum-ext (suc P - c.w) (λ a la. ap (outside c.kmin c.kmax) (sum-ext c.w (λ d ld.
        games_against-agree _ c.t2 t (a + d) (λ j lj b.
        (h t j (a + d) lt lj (omega arith) (simp (m, b)), h j t (a + d) lj lt (omega arith) (simp (m, b, or-true))))))))

    pub agree_ca4 : Agree (scope_of (form_of Ca4) c) n P x y → dev_ca4 n P c x ≡ dev_ca4 n P c y
    unfolding dev_ca4 between form_of scope_of teams_touch slot_touches
    agree_ca4 h =
        ap₂ (cond (first_modes c.mode))
        (ap (λ (v : ℕ). outside c.kmin c.kmax v ∷ []) (over-ext P (slots_of c) same))
        (each-ext P (slots_of c) (λ k lk s. ap (outside c.kmin c.kmax) (same k lk s)))
      where
        d : ℕ
        d = side c.mode

        same : (k : ℕ) → k < P → has (slots_of c) k ≡ true
            → games_between n x (side c.mode) c.t1 c.t2 k ≡ games_between n y (side c.mode) c.t1 c.t2 k
        same k lk s = games_between-agree _ c.t1 c.t2 k (λ i j li lj b.
            h i j k li lj lk (counted (has d 0) (has d 1) (has c.t1 i && has c.t2 j) _ _ b s))

    -- in the scope of both kinds of trips a team of T1 has all its games
    team-agree : Agree (scope_of (form_of Br4) c) n P x y → (t : ℕ) → t < n → has c.t1 t ≡ true
        → (k j : ℕ) → k < P → j < n → Same x y t j k
    unfolding form_of scope_of teams_touch slot_touches
    team-agree h t lt m k j lk lj = (h t j k lt lj lk (simp m), h j t k lj lt lk (simp (m, or-true)))

    pub agree_ca5 : Agree (scope_of (form_of Ca5) c) n P x y → dev_ca5 n P c x ≡ dev_ca5 n P c y
    unfolding dev_ca5 form_of scope_of
    agree_ca5 h =
        each-ext n c.t1 (λ t lt m.
        let same = team-agree h t lt m in
        trips-agree c t same (λ a. ap (outside c.kmin c.kmax) (trip_games-agree c t same a)))

    pub agree_ga1 : Agree (scope_of (form_of Ga1) c) n P x y → dev_ga1 n P c x ≡ dev_ga1 n P c y
    unfolding dev_ga1 between form_of scope_of teams_touch slot_touches
    agree_ga1 h = ap (λ (v : ℕ). outside c.kmin c.kmax v ∷ []) (over-ext P (slots_of c) (λ k lk s.
        games_between-agree home_side c.t1 c.t2 k (λ i j li lj b. h i j k li lj lk (simp (s, simp or-false at b)))))

    breaks-agree : Agree (scope_of (form_of Br1) c) n P x y → (t : ℕ) → t < n → has c.t1 t ≡ true → breaks n P c x t ≡ breaks n P c y t
    unfolding breaks form_of scope_of teams_touch slot_touches
    breaks-agree h t lt m = over-ext P (slots_of c) (λ k lk s. breaks_in-agree t k (λ a j la lj.
        let r : reaches (slots_of c) a ≡ true = has-reaches (slots_of c) s la in
        (h t j a lt lj (omega arith) (simp (m, r)), h j t a lj lt (omega arith) (simp (m, r, or-true)))) (side c.mode))

    pub agree_br1 : Agree (scope_of (form_of Br1) c) n P x y → dev_br1 n P c x ≡ dev_br1 n P c y
    unfolding dev_br1
    agree_br1 h = each-ext n c.t1 (λ t lt m. ap (off_target (first_modes c.mode) c.kmax) (breaks-agree h t lt m))

    pub agree_br2 : Agree (scope_of (form_of Br2) c) n P x y → dev_br2 n P c x ≡ dev_br2 n P c y
    unfolding dev_br2 form_of scope_of
    agree_br2 h =
        ap (λ (v : ℕ). off_target (first_modes c.mode) c.kmax v ∷ [])
        (sum-ext n (λ t lt. only-ext (has c.t1 t) (breaks-agree h t lt)))

    pub agree_br4 : Agree (scope_of (form_of Br4) c) n P x y → dev_br4 n P c x ≡ dev_br4 n P c y
    unfolding dev_br4
    agree_br4 h =
        each-ext n c.t1 (λ t lt m. ap (λ (v : ℕ). c.kmin - v) (trips-agree c t (team-agree h t lt m) {f = λ a. 1} (λ a. refl)))

    up_to-agree : Agree (scope_of (form_of Fa1) c) n P x y → (d t : ℕ) → t < n → has c.t1 t ≡ true
        → (k : ℕ) → k < P → has (slots_of c) k ≡ true → games_up_to n x d c.t1 t (suc k) ≡ games_up_to n y d c.t1 t (suc k)
    unfolding form_of scope_of teams_touch slot_touches
    up_to-agree h d t lt m k lk s = games_up_to-agree d c.t1 t (suc k) (λ j a lj la b.
        let r : reaches (slots_of c) a ≡ true = has-reaches (slots_of c) s (omega arith) in
        (h t j a lt lj (omega arith) (simp (m, b, r)), h j t a lj lt (omega arith) (simp (m, b, r))))

    pub agree_fa1 : Agree (scope_of (form_of Fa1) c) n P x y → dev_fa1 n P c x ≡ dev_fa1 n P c y
    unfolding dev_fa1
    agree_fa1 h =
        each-ext n c.t1 (λ t lt m. worst-ext P (slots_of c) (λ k lk s.
        ap₂ (λ (a b : ℕ). dist a b - c.kmax) (up_to-agree h home_side t lt m k lk s) (up_to-agree h away_side t lt m k lk s)))

    pub agree_fa2 : Agree (scope_of (form_of Fa2) c) n P x y → dev_fa2 n P c x ≡ dev_fa2 n P c y
    unfolding dev_fa2 form_of scope_of
    agree_fa2 h =
        each_pair-ext n c.t1 (λ i j li lj mi mj. worst-ext P (slots_of c) (λ k lk s.
        ap₂ (λ (a b : ℕ). dist a b - c.kmax) (up_to-agree h _ i li mi k lk s) (up_to-agree h _ j lj mj k lk s)))

    pub agree_se1 : Agree (scope_of (form_of Se1) c) n P x y → dev_se1 n P c x ≡ dev_se1 n P c y
    unfolding dev_se1 form_of scope_of teams_touch slot_touches
    agree_se1 h = each_pair-ext n c.t1 (λ i j li lj mi mj. closeness-agree c.w i j (λ k lk.
        (h i j k li lj lk (simp (mi, mj)), h j i k lj li lk (simp (mi, mj)))))

    agree_of : (k : Kind) → Agree (scope_of (form_of k) c) n P x y → deviations_of k n P c x ≡ deviations_of k n P c y
    unfolding deviations_of
    agree_of Ca1 h = agree_ca1 h
    agree_of Ca2 h = agree_ca2 h
    agree_of Ca3 h = agree_ca3 h
    agree_of Ca4 h = agree_ca4 h
    agree_of Ca5 h = agree_ca5 h
    agree_of Ga1 h = agree_ga1 h
    agree_of Br1 h = agree_br1 h
    agree_of Br2 h = agree_br2 h
    agree_of Br4 h = agree_br4 h
    agree_of Fa1 h = agree_fa1 h
    agree_of Fa2 h = agree_fa2 h
    agree_of Se1 h = agree_se1 h
    agree_of Unknown h = refl

    pub agreement : Agree (scope c) n P x y → deviations n P c x ≡ deviations n P c y
    unfolding deviations form_at
    agreement h = agree_of (kind_of c.kind) h
