-- What an examination of a season's bytes answers.
use Rattle.std.specs.Prelude.{◌≡◌, List, ℕ, Result, IfOk}
use Rattle.robinx.specs.Season.{decode}
use Rattle.robinx.specs.Books.{all_entries}
use Rattle.robinx.specs.Refusals.{Sentence, first_true}
use Rattle.robinx.specs.RefusalNumbers.{fault_of}
use Rattle.robinx.specs.declared.Refusal.{Refusal}
use Rattle.season.specs.declared.Examined.{Examined}

-- what was found in a season that is accepted: that season, and E
pub record Found (s : List ℕ) (e : Examined) : Type 0 where
  pub same : e.season.bytes.now ≡ s
  pub entries : e.entries ≡ all_entries (decode s)

-- the number of the first true sentence about s, or 0 and then what was found
pub record Examination (sentences : List Sentence) (s : List ℕ) (r : Result Examined Refusal) : Type 0 where
  pub fault : fault_of r ≡ first_true sentences
  pub found : IfOk r (Found s)
