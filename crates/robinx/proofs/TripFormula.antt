-- BR4 and CA5 as RobinX writes them, over the first and the last slots of trips, are the deviations of Deviations. Assumes nothing.
use mathlib.Core.Path.{◌≡◌, refl, sym, ap, ap₂, ◌∙◌}
use mathlib.Core.Bool.{Bool, true, false, ◌&&◌, not, and-true, and-false, or-false}
use Prim.Native.Nat.{ℕ, zero, suc, ◌+◌, ◌-◌, ◌<◌, ◌≤◌}
use native.Mathlib.Omega.{arith}
use native.Mathlib.Nat.{zero-add, add-zero}
use native.Mathlib.Decide.{dec_lt}
use lib.Dec.{leb, ltb}
use borrow.Author.Tests.{ltb-false, leb-true, lt-ltb, le-ltb, le-leb, lt-leb, not-true}
use Rattle.std.proofs.lemmas.Bool.{and_parts}
use Rattle.robinx.specs.Sums.{sum_to, only, any_to}
use Rattle.robinx.specs.Season.{slots_of}
use Rattle.robinx.specs.Groups.{has}
use Rattle.robinx.specs.Timetable.{X, home_side, away_side, games_with, games_in, games_against, plays, last_was}
use Rattle.robinx.specs.Timetable.{starts_trip, on_trip, along_trip, trip_counts, over_trips}
use Rattle.robinx.specs.Deviations.{each, over, outside, in_run, trips, trip_games, dev_ca5, dev_br4}
use Rattle.robinx.specs.declared.Constraint.{Constraint}
use Rattle.robinx.proofs.Sums.{only-le, only_none, sum-split, sum-zero, sum-le, term-le-sum, any_none, none_any, any_some}
use Rattle.robinx.proofs.Ext.{sum-ext, each-ext}

-- RobinX's a(i, s1, s2): a trip from slot a to slot b: it starts in a, b is a later slot of it, and none after b is
abbrev pub from_to : (ℕ → Bool) → (ℕ → Bool) → ℕ → ℕ → ℕ → Bool
from_to away home P a b = starts_trip away home a && ltb a b && on_trip away home a b && not (any_to (λ k. ltb b k && on_trip away home a k) P)

-- the sum of f over the trips from a slot of S to a later slot of S
abbrev pub over_ends : (ℕ → Bool) → (ℕ → Bool) → ℕ → ℕ → (ℕ → ℕ → ℕ) → ℕ
over_ends away home P S f = over P S (λ a. over P S (λ b. only (from_to away home P a b) (f a b)))

only-in-turn : (s t u v : Bool) {w : Bool} (y : ℕ) → (s ≡ true → w ≡ u) → only (s && t && w && v) y ≡ only t (only v (only (s && u) y))
only-in-turn false t u v y e = sym (simp only_none)
only-in-turn true false u v y e = refl
only-in-turn true true true v y e = rw (e refl)
only-in-turn true true false v y e = rw (e refl) (sym (only_none v))

-- the run of away games that starts in slot a, and games g that a team has only where it plays away
module _ (away home : ℕ → Bool) (g : ℕ → ℕ) (none-but-away : (k : ℕ) → away k ≡ false → g k ≡ 0) (a : ℕ) where
  none-before-a : (k : ℕ) → k < a → on_trip away home a k ≡ false
  unfolding on_trip
  none-before-a k l = rw (lt-leb a k l)

  -- P is no slot of it
  ends-as-before : (P k : ℕ) → on_trip away home a P ≡ false → from_to away home (suc P) a k ≡ from_to away home P a k
  unfolding any_to
  ends-as-before P k e = rw (e, and-false, or-false)

  -- b is a slot of it
  module _ (b : ℕ) (on : on_trip away home a b ≡ true) where
    b-from-a-on : a ≤ b
    unfolding on_trip
    b-from-a-on = leb-true a b (and_parts (leb a b) (away b) (and_parts (leb a b && away b) _ on).0).0

    each-away-game-to-b : (k : ℕ) → a ≤ k → k ≤ b → away k ≡ true → on_trip away home a k ≡ true
    unfolding on_trip
    each-away-game-to-b k l l' e =
        let none : any_to (λ i. leb a i && home i) (suc b) ≡ false = not-true _ (and_parts (leb a b && away b) _ on).1 in
        rw (le-leb a k l, e, none_any (λ i. leb a i && home i) (suc k) (λ i h. any_none _ (suc b) none i (omega arith)))

    two-games-if-b-later : starts_trip away home a ≡ true → leb 2 (along_trip away home (suc b) a (λ k. 1)) ≡ ltb a b
    unfolding along_trip starts_trip sum_to
    two-games-if-b-later s = rw on (go (dec_lt a b))
      where
        f : ℕ → ℕ
        f k = only (on_trip away home a k) 1

        first : f a ≡ 1
        first = rw (each-away-game-to-b a (omega arith) b-from-a-on (and_parts (away a) _ s).0)

        go : Dec (a < b) → leb 2 (sum_to f b + 1) ≡ ltb a b
        go (yes l) = le-leb 2 (sum_to f b + 1) (omega (arith, term-le-sum f a b l, first)) ∙ sym (lt-ltb a b l)
        go (no l) =
            lt-leb 2 (sum_to f b + 1) (omega (arith, sum-zero {f = f} b (λ k l'. rw (none-before-a k (omega arith)))))
            ∙ sym (le-ltb a b (omega arith))

    games-from-a-to-b : along_trip away home (suc b) a g ≡ in_run g (suc b - a) a
    unfolding along_trip in_run
    games-from-a-to-b =
        let e : suc b ≡ a + (suc b - a) = omega (arith, b-from-a-on) in
        ap (sum_to f) e ∙ sum-split f a (suc b - a)
        ∙ ap₂ ◌+◌ (sum-zero a (λ k l. rw (none-before-a k l))) (sum-ext (suc b - a) (λ d l. all (a + d) (omega arith) (omega arith) _ refl))
        ∙ zero-add _
      where
        f : ℕ → ℕ
        f k = only (on_trip away home a k) (g k)

        all : (k : ℕ) → a ≤ k → k ≤ b → (c : Bool) → away k ≡ c → f k ≡ g k
        all k l l' true e = rw (each-away-game-to-b k l l' e)
        all k l l' false e = rw (none-but-away k e, only_none (on_trip away home a k))

    -- the first b + 1 slots: b is the run's last
    ends-in-b : from_to away home (suc b) a b ≡ starts_trip away home a && ltb a b
    ends-in-b = simp (on, none_any (λ k. ltb b k && on_trip away home a k) (suc b) (λ k l. rw (le-ltb b k (omega arith))), and-true)

    ends-in-none-before : (k : ℕ) → k < b → from_to away home (suc b) a k ≡ false
    ends-in-none-before k l = simp (any_some (λ j. ltb k j && on_trip away home a j) (suc b) b (omega arith) (rw (lt-ltb k b l, on)), and-false)

    only-b-counts : (S : ℕ) (f : ℕ → ℕ)
        → over (suc b) S (λ k. only (from_to away home (suc b) a k) (f k)) ≡ only (has S b) (only (starts_trip away home a && ltb a b) (f b))
    unfolding over sum_to
    only-b-counts S f = ap₂ ◌+◌ (sum-zero b (λ k l. rw (ends-in-none-before k l, only_none (has S k)))) (rw ends-in-b) ∙ zero-add _

  -- v of its games in the first P slots, by its first slot and by its last
  module _ (S : ℕ) (v : ℕ → ℕ) where
    abbrev Same : ℕ → Type 0
    Same P =
        only (trip_counts away home P S a) (v (along_trip away home P a g))
        ≡ only (has S a) (over P S (λ b. only (from_to away home P a b) (v (in_run g (suc b - a) a))))

    same-with-last : (b : ℕ) → on_trip away home a b ≡ true → Same (suc b)
    unfolding trip_counts last_was
    same-with-last b e =
        rw (games-from-a-to-b b e, only-b-counts b e S (λ k. v (in_run g (suc k - a) a)), e)
        (only-in-turn (starts_trip away home a) (has S a) (ltb a b) (has S b) _ (two-games-if-b-later b e))

    same-with-next : (P : ℕ) (c : Bool) → on_trip away home a P ≡ c → Same P → Same (suc P)
    unfolding trip_counts along_trip over sum_to last_was any_to
    same-with-next P true e h = same-with-last P e
    same-with-next P false e h =
        simp (e, and-false, only_none, add-zero)
        (h
        ∙ ap
        (only (has S a))
        (sum-ext P (λ k l. ap (λ (b : Bool). only (has S k) (only b (v (in_run g (suc k - a) a)))) (sym (ends-as-before P k e)))))

    same : (P : ℕ) → Same P
    unfolding trip_counts over sum_to last_was
    same zero = simp (and-false, only_none)
    same (suc P) = same-with-next P _ refl (same P)

by-ends : (away home : ℕ → Bool) (g : ℕ → ℕ) → ((k : ℕ) → away k ≡ false → g k ≡ 0) → (P S : ℕ) (v : ℕ → ℕ)
    → over_trips away home P S (λ a. v (along_trip away home P a g)) ≡ over_ends away home P S (λ a b. v (in_run g (suc b - a) a))
unfolding over_trips over
by-ends away home g h P S v = sum-ext P (λ a l. same away home g h a S v P)

pub formula-br4 : (n P : ℕ) (c : Constraint) (x : X)
    → dev_br4 n P c x ≡ each n c.t1 (λ t. c.kmin - over_ends (plays n x away_side t) (plays n x home_side t) P (slots_of c) (λ a b. 1))
unfolding dev_br4 trips
formula-br4 n P c x =
    each-ext n c.t1 (λ t l m. ap (λ (v : ℕ). c.kmin - v) (by-ends _ _ (λ k. 0) (λ k e. refl) P (slots_of c) (λ k. 1)))

no-away-games : (n : ℕ) (x : X) (T t k : ℕ) → plays n x away_side t k ≡ false → games_against n x away_side T t k ≡ 0
unfolding plays games_in games_against
no-away-games n x T t k e =
    omega (arith, ltb-false 0 (games_in n x away_side t k) e, sum-le n (λ j l. only-le (has T j) (games_with x away_side t j k)))

pub formula-ca5 : (n P : ℕ) (c : Constraint) (x : X)
    → dev_ca5 n P c x
    ≡ each n c.t1 (λ t. over_ends (plays n x away_side t) (plays n x home_side t) P (slots_of c) (λ a b.
    outside c.kmin c.kmax (in_run (games_against n x away_side c.t2 t) (suc b - a) a)))
unfolding dev_ca5 trips trip_games
formula-ca5 n P c x =
    each-ext n c.t1 (λ t l m. by-ends _ _ _ (no-away-games n x c.t2 t) P (slots_of c) (outside c.kmin c.kmax))
