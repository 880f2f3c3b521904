-- Tables for the largest number of teams are tables for the n teams of a season: no game has another team. Assumes nothing.
use mathlib.Core.Path.{◌≡◌, ◌∙◌}
use mathlib.Core.List.{List}
use mathlib.Core.Bool.{and-false}
use Prim.Native.Nat.{ℕ, ◌<◌, ◌≤◌}
use native.Mathlib.Omega.{arith}
use lib.ListN.{length, get_or}
use borrow.Author.Tests.{ne_eqb}
use Rattle.robinx.specs.Season.{most_teams}
use Rattle.robinx.specs.Timetable.{is_at, meetings}
use Rattle.robinx.proofs.Sums.{sum-zero}
use Rattle.robinx.proofs.Stops.{sum-stop}
use Rattle.tables.specs.declared.Tables.{Tables}
use Rattle.tables.specs.Tables.{x_of}
use Rattle.timetable.specs.OfSheet.{Shows, InRange}

pub in-range-most : {n : ℕ} {homes aways sheet : List ℕ} → InRange n homes aways sheet → InRange most_teams homes aways sheet
in-range-most range = record {
  teams = record {
    few = omega arith;
    aways-length = range.teams.aways-length;
    home-below = λ g low. omega (arith, range.teams.home-below g low, range.teams.few);
    away-below = λ g low. omega (arith, range.teams.away-below g low, range.teams.few);
    differ = range.teams.differ;
  };
  sheet-length = range.sheet-length;
  slot-low = range.slot-low;
}

module _ (n : ℕ) (homes aways sheet : List ℕ) (range : InRange n homes aways sheet) where
  -- a team that the season does not have meets nobody
  no-guest : (i j k : ℕ) → n ≤ j → meetings homes aways sheet i j k ≡ 0
  unfolding meetings is_at
  no-guest i j k l =
      sum-zero (length homes) (λ g low. rw (ne_eqb (get_or aways g 0) j (λ e. omega (arith, range.teams.away-below g low)), and-false))

  no-host : (i j k : ℕ) → n ≤ i → meetings homes aways sheet i j k ≡ 0
  unfolding meetings is_at
  no-host i j k l =
      sum-zero (length homes) (λ g low. rw (ne_eqb (get_or homes g 0) i (λ e. omega (arith, range.teams.home-below g low))))

  pub shows-for : {t : Tables} → Shows most_teams t homes aways sheet → Shows n t homes aways sheet
  shows-for {t} shows = record {
    tied = record {
      sized = shows.tied.sized;
      home-row = λ i k li lk.
          shows.tied.home-row i k (all i li) lk
          ∙ sum-stop n most_teams range.teams.few (λ j. x_of t.meets i j k) (λ j lj uj. shows.x i j k (all i li) uj lk ∙ no-guest i j k lj);
      away-row = λ j k lj lk.
          shows.tied.away-row j k (all j lj) lk
          ∙ sum-stop n most_teams range.teams.few (λ i. x_of t.meets i j k) (λ i li ui. shows.x i j k ui (all j lj) lk ∙ no-host i j k li);
      once = λ i k li lk. shows.tied.once i k (all i li) lk;
    };
    x = λ i j k li lj lk. shows.x i j k (all i li) (all j lj) lk;
  }
    where
      all : (i : ℕ) → i < n → i < most_teams
      all i l = omega (arith, range.teams.few)
