-- Before each turn the sum is that of the games up to the last one passed, and the others are left.
use Rattle.std.proofs.Common.{rules}
use Rattle.masks.proofs.GapWalk.{closeness-none, summed-first, near, summed-next, summed-all}
use Rattle.masks.proofs.closeness.Goals as goal

pub returns-in_default : goal.returns-in_default
returns-in_default c = closeness-none c.args.v c.args.w (rw (← c.slots_in-slots.ensures) c.in_default.ensures.steps.0)

pub loop-k-init : goal.loop-k-init
loop-k-init c =
    rw (c.into_iter-k-iterator.ensures.into_iter_gives, c.from-gap.ensures)
    (summed-first (rw c.slots_in-slots.ensures at c.in-Some.ensures.steps))

pub loop-k-preserved : goal.loop-k-preserved
loop-k-preserved c =
    let small = near c.loop-k.invariant c.in-Some-k.ensures.steps (search rules) in
    rw (c.saturating_sub-c.ensures, c.from-gap.ensures) (summed-next c.loop-k.invariant c.in-Some-k.ensures.steps small)

pub returns : goal.returns
returns c = summed-all c.loop-k.invariant c.in-None.ensures.steps.0
