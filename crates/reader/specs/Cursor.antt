-- What one step of the cursor gives.
use Rattle.std.specs.Prelude.{◌≡◌, ◌+◌, ◌<◌, Option, MatchOption}
use Rattle.robinx.specs.Season.{decode}
use Rattle.robinx.specs.declared.Constraint.{Constraint}
use Rattle.reader.specs.declared.cursor.Cursor.{Cursor}

-- c is the constraint at the place of r, and t is r one place on
pub record Reads (r : Cursor) (c : Constraint) (t : Cursor) : Type 0 where
  pub below : r.at < r.season.sizes.constraints
  pub constraint : c ≡ (decode r.season.bytes.now).constraint r.at
  pub season : t.season ≡ r.season
  pub at : t.at ≡ r.at + 1

-- .. and after the last there is none
abbrev pub ReadsNext : Cursor → Option Constraint → Cursor → Type 0
ReadsNext r read t = MatchOption read (r.at ≡ r.season.sizes.constraints) (λ c. Reads r c t)
