-- The totals are moved after the walk, which left them as they were, and the verdict follows from them.
use Rattle.books.proofs.Totalled.{answered}
use Rattle.books.proofs.rework.Goals as goal

pub returns-clause-answered : goal.returns-clause-answered
returns-clause-answered c =
    let w = c.walk-moved.ensures in
    let e = c.settle-change.ensures in
    answered w.same e.same w.reworked e.changes.0 e.changes.1 e.stored.0 e.stored.1 c.of.ensures
