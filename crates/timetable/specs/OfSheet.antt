-- The tables of a sheet of a season's games, and what building them answers.
use Rattle.std.specs.Prelude.{◌≡◌, List, [], ◌∷◌, Bool, Result, true, ◌||◌, not, ℕ, ◌<◌, ◌≤◌, eqb, ltb, length, get_or, IfOk}
use Rattle.robinx.specs.Sums.{sum_to, any_to, only}
use Rattle.robinx.specs.Season.{most_teams, most_slots}
use Rattle.robinx.specs.Timetable.{meetings, clash}
use Rattle.robinx.specs.Refusals.{sentence, first_true}
use Rattle.robinx.specs.RefusalNumbers.{fault_of}
use Rattle.robinx.specs.declared.Refusal.{Refusal}
use Rattle.tables.specs.declared.Tables.{Tables}
use Rattle.tables.specs.Tables.{Tied, x_of}

-- The tables are those of the sheet.
pub record Shows (n : ℕ) (t : Tables) (homes aways sheet : List ℕ) : Type 0 where
  pub tied : Tied n t
  pub x : (i j k : ℕ) → i < n → j < n → k < most_slots → x_of t.meets i j k ≡ meetings homes aways sheet i j k

-- What a season's games and its sheet are held to before a table is made of them.
pub record Teams (n : ℕ) (homes aways : List ℕ) : Type 0 where
  pub few : n ≤ most_teams
  pub aways-length : length aways ≡ length homes
  pub home-below : (g : ℕ) → g < length homes → get_or homes g 0 < n
  pub away-below : (g : ℕ) → g < length homes → get_or aways g 0 < n
  pub differ : (g : ℕ) → g < length homes → get_or homes g 0 ≡ get_or aways g 0 → ⊥

pub record InRange (n : ℕ) (homes aways sheet : List ℕ) : Type 0 where
  pub teams : Teams n homes aways
  pub sheet-length : length sheet ≡ length homes
  pub slot-low : (g : ℕ) → g < length homes → get_or sheet g 0 ≤ most_slots

-- The answer `ok` is right, and with it the tables: no team has two games in a slot, or the tables are no matter.
pub record Fits (n : ℕ) (ok : Bool) (t : Tables) (homes aways sheet : List ℕ) : Type 0 where
  pub no-clash : ok ≡ not (clash homes aways sheet)
  pub shows : ok ≡ true → Shows n t homes aways sheet

-- how many games of the sheet have no slot
abbrev pub unplaced : List ℕ → ℕ → ℕ
unplaced sheet G = sum_to (λ g. only (eqb (get_or sheet g 0) 0) 1) G

-- a byte of the sheet is above p
abbrev pub above : ℕ → List ℕ → Bool
above p sheet = any_to (λ g. ltb p (get_or sheet g 0)) (length sheet)

-- What building the tables of a sheet answers and leaves: the number of sentence 8, if a byte is above p or a team has two games in a slot;
-- else 0, the tables of the sheet and the number of its games that have no slot.
pub record Builds (p : ℕ) (homes aways sheet : List ℕ) (r : Result ℕ Refusal) (t : Tables) : Type 0 where
  pub number : fault_of r ≡ first_true (sentence 8 (above p sheet || clash homes aways sheet) ∷ [])
  pub shows : IfOk r (λ u. Shows most_teams t homes aways sheet)
  pub count : IfOk r (λ u. u ≡ unplaced sheet (length homes))
