-- What a walk leaves in the books.
use Rattle.std.specs.Prelude.{◌≡◌, List, ◌++◌, Bool, ℕ, drop}
use Rattle.robinx.specs.Sums.{cat_to, list_to}
use Rattle.robinx.specs.Season.{Instance, decode}
use Rattle.robinx.specs.Timetable.{X}
use Rattle.robinx.specs.Calls.{Buffers, buffers, reworked_stretch, reworked_penalty, gained, lost}
use Rattle.totals.specs.RunningTotals.{TotalsOf}
use Rattle.walk.specs.Walk.{is_touched}
use Rattle.walk.specs.declared.Moved.{Moved}
use Rattle.walk.specs.declared.Touch.{Touch}
use Rattle.walk.specs.declared.books.Books.{Books}

-- the same season, and the same references: who lent ledger and tally finds in them what the books hold
pub record SameBooks (old new : Books) : Type 0 where
  pub season : new.season ≡ old.season
  pub ledger : new.ledger.ghost_name ≡ old.ledger.ghost_name
  pub tally : new.tally.ghost_name ≡ old.tally.ghost_name

abbrev pub instance_of : Books → Instance
instance_of b = decode b.season.bytes.now

-- what a call lends: a sheet, and the books' ledger and tally
abbrev pub lent : List ℕ → Books → Buffers
lent sheet b = buffers sheet b.ledger.now b.tally.now

-- which constraints of the season are worked out
abbrev pub touched_in : Books → Touch → ℕ → Bool
touched_in b touch k = is_touched touch ((instance_of b).constraint k)

-- The figures of the constraints that t names are those of x, the others' are as they were; the two totals in the tally are not looked at.
pub record Reworked (old : Books) (t : ℕ → Bool) (x : X) (new : Books) (r : Moved) : Type 0 where
  pub ledger-is : new.ledger.now ≡ cat_to (reworked_stretch (instance_of old) t x old.ledger.now) (instance_of old).C
  pub tally-is : new.tally.now
      ≡ list_to (reworked_penalty (instance_of old) t x old.tally.now) (instance_of old).C ++ drop (instance_of old).C old.tally.now
  pub got : TotalsOf (λ want. gained want (instance_of old) t x (instance_of old).C) r.gained
  pub gone : TotalsOf (λ want. lost want (instance_of old) t old.tally.now (instance_of old).C) r.lost
