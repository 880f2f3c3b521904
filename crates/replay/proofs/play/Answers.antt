-- The calls made so far: their outcome and their sums.
use mathlib.Core.List.{[]}
use native.Mathlib.Omega.{arith}
use Rattle.std.proofs.lemmas.List.{map_more}
use Rattle.replay.specs.Play.{call_in}
use Rattle.replay.proofs.Lists.{all-called}
use Rattle.replay.proofs.CallSteps.{plays-open, plays-next}
use Rattle.replay.proofs.play.Goals as goal

pub loop-words-init : goal.loop-words-init
loop-words-init c = plays-open _ _ c.season_open.ensures c.of-played.ensures

pub loop-words-preserved : goal.loop-words-preserved
loop-words-preserved c =
    rw (map_more call_in c.as_chunks.result.0.now c.loop-words.words-index [] c.loop-words-test.true, c.then-played.ensures)
    (plays-next _ _ _ c.loop-words.invariant (rw c.from.ensures at c.make-answer.ensures))

pub returns : goal.returns
returns c =
    rw (← all-called c.args.calls.now c.loop-words.words-index c.as_chunks.ensures.front (omega (arith, c.loop-words-test.false)))
    c.loop-words.invariant
