-- `groups::fill::fill_pairs` meets its contract: before each turn the figures of the pairs passed are in. Assumes nothing.
use Rattle.groups.proofs.Figures.{RowsIn, RowIn}
use Rattle.groups.proofs.fill.fill_pairs.Given as goal

abbrev pub invariant-loop-i : goal.invariant-loop-i
invariant-loop-i g l = RowsIn l.group (goal.F-post g l.figure) l.higher.rest l.at l.out

abbrev pub invariant-loop-j : goal.invariant-loop-j
invariant-loop-j g l = RowIn l.group (goal.F-post g l.figure) l.higher.rest l.i l.j-iterator.rest l.at l.out
