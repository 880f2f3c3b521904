-- What CA5 and BR4 make of a team's trips, and sums over the trips, whatever a trip adds.
use Rattle.std.specs.Prelude.{◌≡◌, ◌&&◌, Bool, true, false, ℕ, ◌-◌, leb, Option, MatchOption}
use Rattle.robinx.specs.Season.{most_slots}
use Rattle.robinx.specs.Groups.{has}
use Rattle.robinx.specs.Timetable.{X, home_side, away_side, plays, last_was, on_trip, along_trip}
use Rattle.robinx.specs.Deviations.{over, outside, trips, trip_games}
use Rattle.robinx.specs.declared.Constraint.{Constraint}
use Rattle.masks.specs.Masks.{Marks}
use Rattle.opponents.specs.Figures.{of_check}
use Rattle.opponents.specs.declared.check.Check.{Check}

-- CA5: how far the games against T2 on each trip of team t are outside kmin .. kmax
abbrev pub off_trips : ℕ → ℕ → Constraint → X → ℕ → ℕ
off_trips n P c x t = trips n P c x t (λ a. outside c.kmin c.kmax (trip_games n P c x t a))

-- BR4: how many trips fewer than kmin it has
abbrev pub missing_trips : ℕ → ℕ → Constraint → X → ℕ → ℕ
missing_trips n P c x t = c.kmin - trips n P c x t (λ a. 1)

-- the sum of f over the slots of the team's run of away games from slot a
abbrev pub along_run : ℕ → ℕ → Constraint → X → ℕ → ℕ → (ℕ → ℕ) → ℕ
along_run n P c x t a f = along_trip (plays n x away_side t) (plays n x home_side t) P a f

-- the mask has these slots: a sum over either is the same
abbrev pub RunOf : Check → ℕ → ℕ → ℕ → Type 0
RunOf k t a m = (f : ℕ → ℕ) → over most_slots m f ≡ of_check along_run k t a f

-- what trips add is f's: whatever may be given at the slots of the run from a is f a
abbrev pub GivesTrips : Check → ℕ → (ℕ → ℕ → Type 0) → (ℕ → ℕ) → Type 0
GivesTrips k t post f = (a m r : ℕ) → RunOf k t a m → post m r → r ≡ f a

-- v is the sum over the team's trips
abbrev pub TripsFigure : Check → ℕ → (ℕ → ℕ → Type 0) → ℕ → Type 0
TripsFigure k t post v = (f : ℕ → ℕ) → GivesTrips k t post f → v ≡ of_check trips k t f

-- by masks: the run of away games from slot a has two slots or more, and its last one is in S
abbrev pub ends_in : ℕ → ℕ → ℕ → ℕ → Bool
ends_in away home S a =
    leb 2 (along_trip (has away) (has home) most_slots a (λ k. 1)) && last_was (on_trip (has away) (has home) a) (has S) most_slots

-- .. and then the mask of its slots
abbrev pub TripAt : ℕ → ℕ → ℕ → ℕ → Option ℕ → Type 0
TripAt away home S a o =
    MatchOption o (ends_in away home S a ≡ false)
    (λ run. (ends_in away home S a ≡ true) × Marks most_slots (on_trip (has away) (has home) a) run)
