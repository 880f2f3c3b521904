-- A team's trips by the masks of its home games and its away games. Assumes that the tables are tied.
use mathlib.Core.Path.{◌≡◌, refl, sym, ◌∙◌}
use mathlib.Core.Bool.{Bool, false}
use Prim.Native.Nat.{ℕ, ◌+◌, ◌*◌, ◌-◌, ◌%◌, ◌^◌, ◌<◌, ◌≤◌}
use native.Mathlib.Omega.{arith}
use native.Mathlib.Nat.{mod-lt, zero-add}
use lib.Bits.{bit_and}
use lib.ListN.{get_or}
use lib.Pow.{pow_pos}
use Rattle.robinx.specs.Season.{most_slots, slots_of}
use Rattle.robinx.specs.Groups.{bit, has}
use Rattle.robinx.specs.Timetable.{home_side, away_side, games_against, plays, starts_trip, on_trip, over_trips}
use Rattle.robinx.specs.Deviations.{over, trips, trip_games}
use Rattle.robinx.proofs.Bits.{front-has}
use Rattle.robinx.proofs.SetBits.{none-past}
use Rattle.robinx.proofs.Trips.{along_trip-ext, along_trip-stop, over_trips-ext, over_trips-stop}
use Rattle.bits.specs.SetBits.{Lowest}
use Rattle.bits.proofs.Figures.{over-none, over-lowest}
use Rattle.masks.specs.Masks.{Marks}
use Rattle.tables.specs.Tables.{x_of}
use Rattle.opponents.specs.Figures.{of_check}
use Rattle.opponents.specs.Games.{MaskOf}
use Rattle.opponents.specs.declared.check.Check.{Check}
use Rattle.opponents.proofs.Plays.{home-mask, away-mask, plays-mask}
use Rattle.trips.specs.TripFigures.{RunOf, GivesTrips, TripsFigure}
use Rattle.trips.proofs.Runs.{along, adds, all_runs, count-le}

-- Before each turn of the walk: v is little, and with what the runs from the slots of rest add it is the whole sum.
pub record Summed (away home : ℕ) (k : Check) (t : ℕ) (post : ℕ → ℕ → Type 0) (rest v : ℕ) : Type 0 where
  pub small : most_slots * v + (2 ^ 32 - 1) * over most_slots rest (λ i. 1) ≤ most_slots * (2 ^ 32 - 1)
  pub values : (f : ℕ → ℕ) → GivesTrips k t post f
      → v + over most_slots rest (adds away home (slots_of k.constraint) f) ≡ of_check trips k t f

module _ (k : Check) (t : ℕ) (lt : t < k.sizes.teams) where
  abbrev P : ℕ
  P = k.sizes.slots

  abbrev plays_on : ℕ → ℕ → Bool
  plays_on d = plays k.sizes.teams (x_of k.tables.now.meets) d t

  abbrev home : ℕ
  home = get_or k.tables.now.home t 0

  -- the games against T2 on a run
  pub games : (wanted : ℕ) → MaskOf (games_against k.sizes.teams (x_of k.tables.now.meets) away_side k.constraint.t2 t) wanted
      → (a run : ℕ) → RunOf k t a run → over most_slots run (bit wanted) ≡ of_check trip_games k t a
  unfolding trip_games
  games wanted mask a run of =
      of (bit wanted)
      ∙ along_trip-ext {p = plays_on away_side} {q = plays_on home_side} P (λ i l. refl) (λ i l. refl) a
      (λ i l. mask i (omega (arith, k.checkable.slots)))

  home-has : (i : ℕ) → i < P → has home i ≡ plays_on home_side i
  home-has i l = sym (plays-mask k.checkable.tied t lt home_side home (home-mask k.checkable.tied t lt) i (omega (arith, k.checkable.slots)))

  -- by the away games of the season's slots
  module _ (away : ℕ) (front : away ≡ get_or k.tables.now.away t 0 % 2 ^ P) where
    away-has : (i : ℕ) → i < P → has away i ≡ plays_on away_side i
    away-has i l =
        rw front
        (front-has (get_or k.tables.now.away t 0) P i l
        ∙ sym (plays-mask k.checkable.tied t lt away_side _ (away-mask k.checkable.tied t lt) i (omega (arith, k.checkable.slots))))

    none : (i : ℕ) → P ≤ i → i < most_slots → has away i ≡ false
    none i l l' = none-past away P (rw front (mod-lt (get_or k.tables.now.away t 0) (pow_pos P))) i l

    -- the run from a slot, and all trips
    pub run_of : (a run : ℕ) → Marks most_slots (on_trip (has away) (has home) a) run → RunOf k t a run
    run_of a run m f =
        along away home a run m f
        ∙ along_trip-stop P most_slots k.checkable.slots (has away) (has home) none a f
        ∙ along_trip-ext P away-has home-has a (λ i l. refl)

    team-trips : (f : ℕ → ℕ) → over_trips (has away) (has home) most_slots (slots_of k.constraint) f ≡ of_check trips k t f
    unfolding trips
    team-trips f =
        over_trips-stop P most_slots k.checkable.slots (has away) (has home) none (slots_of k.constraint) f
        ∙ over_trips-ext P away-has home-has (slots_of k.constraint) (λ a l. refl)

    pub none-summed : {post : ℕ → ℕ → Type 0} (starts rest : ℕ) → Marks most_slots (starts_trip (has away) (has home)) starts
        → rest ≡ bit_and starts (slots_of k.constraint) → Summed away home k t post rest 0
    none-summed starts rest m e = record {
      small = omega (arith, count-le rest);
      values = λ f g. rw (e, zero-add) (all_runs away home (slots_of k.constraint) starts m f ∙ team-trips f);
    }

module _ {away home : ℕ} {k : Check} {t : ℕ} {post : ℕ → ℕ → Type 0} {rest v : ℕ} (w : Summed away home k t post rest v) where
  -- with the run from a, which adds r
  pub one-more : {a left : ℕ} → Lowest rest a left → (r : ℕ) → most_slots * r < 2 ^ 32
      → ((f : ℕ → ℕ) → GivesTrips k t post f → r ≡ adds away home (slots_of k.constraint) f a) → Summed away home k t post left (v + r)
  one-more l r few is = record {
    small = omega (arith, few, w.small, over-lowest l most_slots l.room (λ i. 1));
    values = λ f g. omega (arith, is f g, w.values f g, over-lowest l most_slots l.room (adds away home (slots_of k.constraint) f));
  }

  pub all-summed : rest ≡ 0 → TripsFigure k t post v
  all-summed e f g = omega (arith, rw e at (w.values f g), over-none most_slots (adds away home (slots_of k.constraint) f))
