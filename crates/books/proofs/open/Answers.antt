-- The totals follow the penalties, and the verdict follows from them.
use Rattle.books.proofs.Totalled.{opened}
use Rattle.books.proofs.open.Goals as goal

pub returns-clause-opened : goal.returns-clause-opened
returns-clause-opened c =
    let w = c.walk.ensures in
    let e = c.store.ensures in
    opened w.same e.same w.reworked e.stored.0 e.stored.1 c.of.ensures
