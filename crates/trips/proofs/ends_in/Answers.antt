-- `trips::ends_in` meets its contract. Assumes nothing.
use mathlib.Core.Path.{◌≡◌, refl, sym, ap, ◌∙◌}
use lib.Dec.{leb}
use borrow.Author.Rules.{rules}
use borrow.Author.Tests.{le-leb, lt-leb}
use Rattle.robinx.specs.Season.{most_slots}
use Rattle.robinx.specs.Groups.{size}
use Rattle.robinx.proofs.GroupSizes.{size-ones}
use Rattle.trips.proofs.ends_in.Goals as goal
use Rattle.trips.proofs.ends_in.Goals.{After-size}

-- the count of set bits is the size
two : (c : After-size) → leb 2 c.size.result ≡ leb 2 (size most_slots c.args.run)
two c = ap (leb 2) (c.size.ensures.0 ∙ sym (size-ones most_slots c.args.run (search rules)))

pub returns-then-size-ge2 : goal.returns-then-size-ge2
returns-then-size-ge2 c = rw (← two (goal.at.returns-then-size-ge2 c).After-size, le-leb 2 c.size.result c.if-size-ge2.true) c.last_in.ensures

pub returns-else-size-ge2 : goal.returns-else-size-ge2
returns-else-size-ge2 c = rw (← two (goal.at.returns-else-size-ge2 c).After-size, lt-leb 2 c.size.result (search rules)) refl
