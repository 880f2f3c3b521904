-- `groups::fill::fill_pairs` meets its contract: before each turn the figures of the pairs passed are in. Assumes nothing.
use Rattle.bits.proofs.Lowest.{taken-has, taken-below}
use Rattle.groups.proofs.Figures.{rows-in, row-in, row-room, row-next, row-all-in, rows-all-in}
use Rattle.groups.proofs.fill.fill_pairs.Goals as goal

pub loop-i-init : goal.loop-i-init
loop-i-init g c = rw c.members-higher.ensures (rows-in c.ranges.group.fits c.requires.room)

pub loop-j-init : goal.loop-j-init
loop-j-init g c = rw c.into_iter-j-iterator.ensures.into_iter_gives (row-in c.ranges.group.fits c.loop-i.invariant c.in-Some.ensures.steps)

pub loop-i-preserved : goal.loop-i-preserved
loop-i-preserved g c = row-all-in c.ranges.group.fits c.loop-j.invariant c.in-None.ensures.steps.0

pub figure-requires : goal.figure-requires
figure-requires g c =
    let a = c.loop-j.invariant in
    let s = c.in-Some-j.ensures.steps in
    c.requires.callable _ _ (a.above _ s.found) (taken-below a.part s _ c.ranges.group.fits) a.member (taken-has a.part s)

pub bounds-out-at : goal.bounds-out-at
bounds-out-at g c = row-room c.ranges.group.fits c.loop-j.invariant c.in-Some-j.ensures.steps

pub loop-j-preserved : goal.loop-j-preserved
loop-j-preserved g c = row-next c.ranges.group.fits c.loop-j.invariant c.in-Some-j.ensures.steps c.figure.ensures

pub returns : goal.returns
returns g c = rows-all-in c.ranges.group.fits c.loop-i.invariant c.in_default.ensures.steps.0
