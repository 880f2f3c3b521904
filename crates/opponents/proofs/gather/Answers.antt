-- `opponents::gather` meets its contract. Assumes nothing.
use borrow.Author.Rules.{rules}
use Rattle.opponents.proofs.Gathered.{fold-callable, union-fold}
use Rattle.opponents.proofs.gather.Goals as goal

pub fold-requires-clause-callable : goal.fold-requires-clause-callable
fold-requires-clause-callable g c =
    fold-callable _ _ (λ u t r q k. search rules) c.members.ensures c.ranges.group.fits (λ u t l. search (rules, c.requires.callable))

pub returns : goal.returns
returns g c word gives =
    union-fold word c.args.group c.ranges.group.fits _ _ (λ u t r q k. search (rules, gives)) c.members.ensures c.fold.ensures.ran
