-- `groups::fill::fill` meets its contract: before each turn the figures of the members passed are in. Assumes nothing.
use Rattle.groups.proofs.Figures.{EachIn}
use Rattle.groups.proofs.fill.fill.Given as goal

abbrev pub invariant-loop-at : goal.invariant-loop-at
invariant-loop-at g l =
    (goal.iterator-loop-at g).can_next l.at-iterator × (goal.iterator-loop-at g).is_finite l.at-iterator
    × EachIn l.fn.walk.rest (goal.F-post g l.figure) l.at-iterator.iter.rest l.at-iterator.count l.out
