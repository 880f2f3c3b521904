-- The deviations are small, so the penalty fits.
use Rattle.walk.proofs.WalkTurns.{small}
use Rattle.walk.proofs.price.Goals as goal

pub penalty-requires : goal.penalty-requires
penalty-requires c = rw c.fill.ensures (small c.args.check.now.checkable)
