-- What an accepted call answers and leaves in the books, for any timetable x and any number u of unplaced games.
use Rattle.std.specs.Prelude.{◌≡◌, List, [], ◌∷◌, ◌++◌, Bool, ℕ, ◌+◌, get_or, take}
use Rattle.robinx.specs.Sums.{cat_to, list_to}
use Rattle.robinx.specs.Season.{Instance}
use Rattle.robinx.specs.Timetable.{X}
use Rattle.robinx.specs.Books.{deviations_at, penalty_at, is_hard, is_soft, total}
use Rattle.robinx.specs.Calls.{reworked_stretch, reworked_penalty, change, moved_total}
use Rattle.totals.specs.RunningTotals.{TotalsOf}
use Rattle.replies.specs.Verdict.{verdict_number, verdict_of}
use Rattle.replies.specs.declared.Accepted.{Accepted}
use Rattle.walk.specs.Reworked.{instance_of}
use Rattle.walk.specs.declared.books.Books.{Books}

-- the first penalties of a tally, and then two totals
abbrev pub with_totals : List ℕ → ℕ → ℕ → ℕ → List ℕ
with_totals tally n hard soft = take n tally ++ hard ∷ soft ∷ []

-- an opening: all figures are those of x, and the changes are their totals
pub record Opened (m : Instance) (x : X) (u : ℕ) (new : Books) (a : Accepted) : Type 0 where
  pub totals : TotalsOf (λ want. total want m x) a.change
  pub ledger-is : new.ledger.now ≡ cat_to (deviations_at m x) m.C
  pub tally-is : new.tally.now ≡ list_to (penalty_at m x) m.C ++ a.change.hard ∷ a.change.soft ∷ []
  pub verdict : verdict_number a.verdict ≡ verdict_of u a.change.hard

-- a set or an exchange: the constraints that t names are worked out, and the totals have moved by their changes
pub record Answered (old : Books) (t : ℕ → Bool) (x : X) (u : ℕ) (new : Books) (a : Accepted) : Type 0 where
  pub hard : a.change.hard ≡ change is_hard (instance_of old) t x old.tally.now
  pub soft : a.change.soft ≡ change is_soft (instance_of old) t x old.tally.now
  pub ledger-is : new.ledger.now ≡ cat_to (reworked_stretch (instance_of old) t x old.ledger.now) (instance_of old).C
  pub tally-is : new.tally.now
      ≡ list_to (reworked_penalty (instance_of old) t x old.tally.now) (instance_of old).C
      ++ moved_total (get_or old.tally.now (instance_of old).C 0) a.change.hard
      ∷ moved_total (get_or old.tally.now ((instance_of old).C + 1) 0) a.change.soft ∷ []
  pub verdict : verdict_number a.verdict ≡ verdict_of u (moved_total (get_or old.tally.now (instance_of old).C 0) a.change.hard)
