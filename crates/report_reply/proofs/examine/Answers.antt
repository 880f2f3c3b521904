-- The season's own sentences, then the number of deviations.
use borrow.Author.Rules.{rules}
use Rattle.report_reply.proofs.Sixth.{one-of-five, too_many, not-too-many, few-constraints}
use Rattle.report_reply.proofs.examine.Goals as goal

pub returns-in_err-found-clause-told : goal.returns-in_err-found-clause-told
returns-in_err-found-clause-told c = let refused = one-of-five _ c.in_err-found.ensures in search rules

pub returns-then-found-gt-MOST_DEVIATIONS-clause-told : goal.returns-then-found-gt-MOST_DEVIATIONS-clause-told
returns-then-found-gt-MOST_DEVIATIONS-clause-told c = too_many _ c.in_ok-found.ensures c.if-found-gt-MOST_DEVIATIONS.true

pub returns-clause-told : goal.returns-clause-told
returns-clause-told c = not-too-many _ c.in_ok-found.ensures c.if-found-gt-MOST_DEVIATIONS.false

pub returns-clause-few : goal.returns-clause-few
returns-clause-few c = (c.if-found-gt-MOST_DEVIATIONS.false, few-constraints _ c.in_ok-found.ensures)
