-- `groups::fill::fill` meets its contract: before each turn the figures of the members passed are in. Assumes nothing.
use Rattle.std.proofs.Common.{rules}
use Rattle.robinx.proofs.GroupSizes.{size-le}
use Rattle.bits.proofs.Lowest.{taken-has}
use Rattle.groups.proofs.Figures.{each-in, each-room, each-next, all-in}
use Rattle.groups.proofs.fill.fill.Goals as goal

pub loop-at-init : goal.loop-at-init
loop-at-init g c = (
  search (rules, size-le c.args.walk.rest 64),
  search rules,
  rw (c.into_iter-at-iterator.ensures.into_iter_gives, c.enumerate-at-items.ensures.source, c.enumerate-at-items.ensures.count)
      (each-in (search rules) c.requires.room),
)

pub bounds-out-at : goal.bounds-out-at
bounds-out-at g c = let s = c.in-Some.ensures.steps in rw s.1 (each-room c.loop-at.invariant.2 s.0)

pub figure-requires : goal.figure-requires
figure-requires g c =
    let part = c.loop-at.invariant.2.part in
    let s = c.in-Some.ensures.steps.0 in c.requires.callable _ s.room (taken-has part s)

pub loop-at-preserved : goal.loop-at-preserved
loop-at-preserved g c =
    let s = c.in-Some.ensures.steps in
    (search rules, search rules, rw (s.1, s.2) (each-next c.loop-at.invariant.2 s.0 c.figure.ensures))

pub returns : goal.returns
returns g c = all-in c.loop-at.invariant.2 c.in-None.ensures.steps.0.0
