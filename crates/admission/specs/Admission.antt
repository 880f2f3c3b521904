-- What sentences 1 to 8 leave of a call: a refusal's number, or the season, the tables of its sheet and a count of its unplaced games.
use Rattle.std.specs.Prelude.{◌≡◌, List, true, ℕ, Result, IfOk}
use Rattle.robinx.specs.Season.{Instance, decode, most_teams}
use Rattle.robinx.specs.Calls.{Buffers, Outcome, Call, unless_refused, open_fault, reworked}
use Rattle.robinx.specs.PlainSheet.{plain_fault}
use Rattle.tables.specs.declared.Tables.{Tables}
use Rattle.timetable.specs.OfSheet.{Fits, unplaced}
use Rattle.robinx.specs.RefusalNumbers.{fault_of}
use Rattle.robinx.specs.declared.Refusal.{Refusal}
use Rattle.admission.specs.declared.Admitted.{Admitted}

-- a call that has passed them: no sentence is true, and u games of the sheet, of which the tables are, have no slot
pub record Ready (season : List ℕ) (b : Buffers) (u : ℕ) (t : Tables) : Type 0 where
  pub passed : open_fault season b ≡ 0
  pub tables : Fits most_teams true t (decode season).home (decode season).away b.sheet
  pub count : u ≡ unplaced b.sheet (decode season).G

-- what an admission finds: a call to this season that has passed them
pub record IsAdmitted (season : List ℕ) (b : Buffers) (t : Tables) (a : Admitted) : Type 0 where
  pub same : a.season.bytes.now ≡ season
  pub ready : Ready season b a.unplaced t

-- the number of the first true sentence, or 0 and then what was found
pub record Admits (season : List ℕ) (b : Buffers) (r : Result Admitted Refusal) (t : Tables) : Type 0 where
  pub number : fault_of r ≡ open_fault season b
  pub found : IfOk r (IsAdmitted season b t)

-- what a set or an exchange that has passed them answers and leaves
abbrev pub after_entry : Instance → Buffers → Call → Outcome
after_entry m b k = unless_refused (plain_fault m b.sheet k) (reworked m b k) b
