-- Runs of away games as masks, and the sum over those that start in S. Assumes nothing.
use Rattle.std.proofs.lemmas.Nat.Bits.{bit_at-lt}
use mathlib.Core.Path.{◌≡◌, refl, sym, ap, ap₂, ◌∙◌}
use mathlib.Core.Bool.{Bool, true, false, ◌&&◌, cond}
use Prim.Native.Nat.{ℕ, ◌*◌, ◌^◌, ◌<◌, ◌≤◌}
use native.Mathlib.Omega.{arith}
use lib.Bits.{bit_and}
use lib.Dec.{eqb, leb}
use Rattle.std.specs.Bool.{then_some}
use Rattle.std.proofs.lemmas.Bool.{cond_both}
use Rattle.robinx.specs.Season.{most_slots, slots_of}
use Rattle.robinx.specs.Sums.{only}
use Rattle.robinx.specs.Groups.{bit, has, size}
use Rattle.robinx.specs.Timetable.{last_was, starts_trip, on_trip, along_trip, trip_counts, over_trips}
use Rattle.robinx.specs.Deviations.{over, outside}
use Rattle.robinx.specs.declared.Constraint.{Constraint}
use Rattle.robinx.proofs.Sums.{only-bound, sum_bound}
use Rattle.robinx.proofs.Ext.{sum-ext, last_was-ext}
use Rattle.robinx.proofs.Bits.{and-has}
use Rattle.robinx.proofs.Trips.{along_trip-le, over_trips-le}
use Rattle.masks.specs.Masks.{Marks}
use Rattle.trips.specs.TripFigures.{ends_in, TripAt}

-- by the mask of the run
module _ (away home a run : ℕ) (m : Marks most_slots (on_trip (has away) (has home) a) run) where
  pub along : (f : ℕ → ℕ) → over most_slots run f ≡ along_trip (has away) (has home) most_slots a f
  unfolding over along_trip
  along f = sum-ext most_slots (λ k l. ap (λ (b : Bool). only b (f k)) (m k l))

  run-ends : (S : ℕ) → leb 2 (size most_slots run) && last_was (has run) (has S) most_slots ≡ ends_in away home S a
  unfolding size over
  run-ends S = ap₂ (λ (v : ℕ) (b : Bool). leb 2 v && b) (along (λ k. 1)) (last_was-ext most_slots m (λ k l. refl))

  pub trip-run : (S : ℕ) → TripAt away home S a (then_some (leb 2 (size most_slots run) && last_was (has run) (has S) most_slots) run)
  trip-run S = rw (run-ends S) (go (ends_in away home S a) refl)
    where
      go : (b : Bool) → ends_in away home S a ≡ b → TripAt away home S a (then_some b run)
      go true e = (e, m)
      go false e = e

-- what the run from a slot adds, where a trip from a adds f a
abbrev pub adds : ℕ → ℕ → ℕ → (ℕ → ℕ) → ℕ → ℕ
adds away home S f a = only (ends_in away home S a) (f a)

only-both : (s two last : Bool) (v : ℕ) → only (s && two && last) v ≡ only s (only (two && last) v)
only-both true two last v = refl
only-both false two last v = refl

-- the sum over the runs that start in S
module _ (away home S starts : ℕ) (m : Marks most_slots (starts_trip (has away) (has home)) starts) where
  pub all_runs : (f : ℕ → ℕ) → over most_slots (bit_and starts S) (adds away home S f) ≡ over_trips (has away) (has home) most_slots S f
  unfolding over over_trips trip_counts
  all_runs f =
      sum-ext most_slots (λ a l.
      ap (λ (b : Bool). only b (adds away home S f a)) (and-has starts S a ∙ ap (λ (b : Bool). b && has S a) (m a l))
      ∙ sym (only-both (starts_trip (has away) (has home) a && has S a) _ _ _))

-- how many slots a mask has
pub count-le : (m : ℕ) → over most_slots m (λ k. 1) ≤ most_slots
unfolding over
count-le m = omega (arith, sum_bound {f = λ k. only (has m k) 1} most_slots 1 (λ k l. only-bound (has m k) (omega arith)))

-- a count of a trip's games is little, and so is how far it is outside its range
pub little : (kmin kmax wanted trip r : ℕ) → kmin ≤ 255 → r ≡ outside kmin kmax (over most_slots trip (bit wanted))
    → most_slots * r < 2 ^ 32
unfolding over
little kmin kmax wanted trip r l e =
    let bits : over most_slots trip (bit wanted) ≤ most_slots * 1 =
    sum_bound most_slots 1 (λ k lk. only-bound (has trip k) (omega (arith, bit_at-lt wanted k))) in omega (arith, e, l, bits)

-- what a team's trips make in all: each adds 1 in BR4, else how far a count of its games is outside kmin .. kmax
pub runs-small : (c : Constraint) (away home wanted : ℕ) → c.kmin ≤ 255
    → over_trips (has away) (has home) most_slots (slots_of c) (λ a.
    cond (eqb c.kind 34) 1 (outside c.kmin c.kmax (along_trip (has away) (has home) most_slots a (bit wanted)))) ≤ most_slots * 255
runs-small c away home wanted l =
    over_trips-le (has away) (has home) most_slots (slots_of c) 255 (λ a h.
    let v = along_trip (has away) (has home) most_slots a (bit wanted) in
    let few : v ≤ most_slots = along_trip-le (has away) (has home) most_slots a (λ k h. omega (arith, bit_at-lt wanted k)) in
    cond_both (eqb c.kind 34) 1 (outside c.kmin c.kmax v) (λ r. r ≤ 255) (λ e. omega arith) (λ e. omega (arith, l, few)))
