-- An opening and a list of calls after it, made through the exported calls.
use Rattle.std.specs.Prelude.{◌≡◌, List, [], ◌∷◌, ℕ, zero, suc, ◌+◌, get_or}
use Rattle.robinx.specs.Season.{decode}
use Rattle.robinx.specs.Calls.{Buffers, outcome, Call, set_slot, exchange, open_call}
unfoldable pub use Rattle.robinx.specs.Demands.{last, added}
pub use Rattle.robinx.specs.Demands.{Fresh}
use Rattle.robinx.specs.PlainSheet.{plain_after}
use Rattle.robinx.specs.declared.Reply.{Reply}
use Rattle.replay.specs.declared.Call.{Call as ProgramCall}
use Rattle.replay.specs.declared.Call.TheVariants.{Set, Exchange}
use Rattle.replies.specs.Reply.{reply_of}
use Rattle.played.specs.declared.Played.{Played}
use Rattle.played.specs.Word.{word}

-- what a call of the program means
abbrev pub meant_by : ProgramCall → Call
meant_by (Set game slot) = set_slot game slot
meant_by (Exchange game other) = exchange game other

-- kind 0 is set, any other is exchange
abbrev pub call_of : ℕ → ℕ → ℕ → Call
call_of zero first second = set_slot first second
call_of (suc kind) first second = exchange first second

-- .. of the three words of a call
abbrev pub call_in : List ℕ → Call
call_in words = call_of (get_or words 0 0) (get_or words 1 0) (get_or words 2 0)

-- three words a call; one or two words at the end are no call
unfoldable pub calls_of : List ℕ → List Call
calls_of (kind ∷ first ∷ second ∷ words) = call_of kind first second ∷ calls_of words
calls_of (kind ∷ first ∷ []) = []
calls_of (kind ∷ []) = []
calls_of [] = []

-- The answer and the buffers are those of the last call, and each sum is that of the changes of all replies, the opening's first, modulo 2^64.
-- Nothing is asked of season and buffers.
pub record Replays (season : List ℕ) (b : Buffers) (calls : List Call) (p : Played) (left : Buffers) : Type 0 where
  pub lasts : outcome (reply_of p.answer) left ≡ last season (open_call season b) calls
  pub infeasibility : p.sums.hard ≡ word (added (λ (r : Reply). r.infeasibility) season (open_call season b) calls)
  pub objective : p.sums.soft ≡ word (added (λ (r : Reply). r.objective) season (open_call season b) calls)

-- After an accepted opening: the sheet is the plain sheet, ledger and tally are those of a fresh opening of it, and the sums are the two
-- totals that the tally holds.
pub record ReplaysFresh (season : List ℕ) (b : Buffers) (calls : List Call) (p : Played) (left : Buffers) : Type 0 where
  pub fresh : Fresh season (plain_after (decode season) b.sheet calls) (outcome (reply_of p.answer) left)
  pub infeasibility : p.sums.hard ≡ get_or left.tally (decode season).C 0
  pub objective : p.sums.soft ≡ get_or left.tally ((decode season).C + 1) 0
