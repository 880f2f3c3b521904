-- The calls made so far: their outcome and their sums.
use mathlib.Core.List.{map}
use lib.ListN.{take}
use Rattle.robinx.specs.Calls.{buffers}
use Rattle.replay.specs.Play.{call_in, Replays}
use Rattle.replay.proofs.play.Given as goal

abbrev pub invariant-loop-words : goal.invariant-loop-words
invariant-loop-words l =
    Replays l.season (buffers l.fn.sheet l.fn.ledger l.fn.tally)
    (map call_in (take l.words-index l.calls)) l.played (buffers l.sheet l.ledger l.tally)
