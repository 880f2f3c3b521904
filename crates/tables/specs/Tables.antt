-- The three tables of a sheet: which slots a team plays at home, which away, and in which one team hosts another.
-- A mask's bit k is slot k, counted from 0; a sheet's byte counts from 1 and is 0 for an unplaced game.
use Rattle.std.specs.Prelude.{◌≡◌, List, [], Bool, true, ◌||◌, not, cond, ℕ, zero, suc, ◌+◌, ◌<◌, ◌≤◌, length, get_or, set, replicate}
use Rattle.robinx.specs.Sums.{sum_to}
use Rattle.robinx.specs.Groups.{bit, has}
use Rattle.robinx.specs.Season.{most_teams, most_slots}
use Rattle.robinx.specs.Timetable.{X}
use Rattle.masks.specs.Masks.{joined, without}
use Rattle.tables.specs.declared.Tables.{Tables}

abbrev pub tables : List ℕ → List ℕ → List (List ℕ) → Tables
tables home away meets = record { home = home; away = away; meets = meets }

-- the masks of team i hosting each other team, and that of i hosting j
abbrev pub hosted_by : List (List ℕ) → ℕ → List ℕ
hosted_by meets i = get_or meets i []

abbrev pub hosting : List (List ℕ) → ℕ → ℕ → ℕ
hosting meets i j = get_or (hosted_by meets i) j 0

-- the timetable that the table of meetings holds
abbrev pub x_of : List (List ℕ) → X
x_of meets i j k = bit (hosting meets i j) k

-- A word for each team, and for each two of them.
pub record Sized (t : Tables) : Type 0 where
  pub home-length : length t.home ≡ most_teams
  pub away-length : length t.away ≡ most_teams
  pub meets-length : length t.meets ≡ most_teams
  pub row-length : (i : ℕ) → i < most_teams → length (hosted_by t.meets i) ≡ most_teams

-- no game is placed
pub record Empty (t : Tables) : Type 0 where
  pub home-is : t.home ≡ replicate most_teams 0
  pub away-is : t.away ≡ replicate most_teams 0
  pub meets-is : t.meets ≡ replicate most_teams (replicate most_teams 0)

-- The rows say what `meets` says, and no team has two games in a slot.
pub record Tied (n : ℕ) (t : Tables) : Type 0 where
  pub sized : Sized t
  pub home-row : (i k : ℕ) → i < n → k < most_slots → bit (get_or t.home i 0) k ≡ sum_to (λ j. x_of t.meets i j k) n
  pub away-row : (j k : ℕ) → j < n → k < most_slots → bit (get_or t.away j 0) k ≡ sum_to (λ i. x_of t.meets i j k) n
  pub once : (i k : ℕ) → i < n → k < most_slots → bit (get_or t.home i 0) k + bit (get_or t.away i 0) k ≤ 1

-- team i has a game in slot k
abbrev pub busy : List ℕ → List ℕ → ℕ → ℕ → Bool
busy home away i k = has (get_or home i 0) k || has (get_or away i 0) k

-- one of the two teams has
abbrev pub taken : List ℕ → List ℕ → ℕ → ℕ → ℕ → Bool
taken home away i j k = busy home away i k || busy home away j k

-- a table with slot k in word q, and without it
abbrev pub joined_at : List ℕ → ℕ → ℕ → List ℕ
joined_at l q k = set l q (joined (get_or l q 0) k)

abbrev pub without_at : List ℕ → ℕ → ℕ → List ℕ
without_at l q k = set l q (without (get_or l q 0) k)

-- the tables with game (i, j) in the slot of byte b, of which 0 is no slot, and without it
abbrev pub put_into : ℕ → ℕ → ℕ → Tables → Tables
put_into i j zero t = t
put_into i j (suc k) t = tables (joined_at t.home i k) (joined_at t.away j k) (set t.meets i (joined_at (hosted_by t.meets i) j k))

abbrev pub taken_out_of : ℕ → ℕ → ℕ → Tables → Tables
taken_out_of i j zero t = t
taken_out_of i j (suc k) t = tables (without_at t.home i k) (without_at t.away j k) (set t.meets i (without_at (hosted_by t.meets i) j k))

-- the slot of byte b is free for i and j
abbrev pub free_at : List ℕ → List ℕ → ℕ → ℕ → ℕ → Bool
free_at home away i j zero = true
free_at home away i j (suc k) = not (taken home away i j k)

-- What a try to put game (i, j) into the slot of byte b answers and leaves: all three tables with it, or none.
pub record Tried (r : Bool) (i j b : ℕ) (t t' : Tables) : Type 0 where
  pub answer : r ≡ free_at t.home t.away i j b
  pub after : t' ≡ cond r (put_into i j b t) t
