-- `breaks::group_breaks` meets its contract. Assumes nothing.
use borrow.Author.Rules.{rules}
use Rattle.opponents.proofs.Checkable.{limits}
use Rattle.breaks.proofs.group_breaks.Goals as goal

pub returns : goal.returns
returns c = let k = c.args.check.now.checkable in c.total.ensures _ _ k.teams (limits k).t1 (λ t l h r p. search rules)
