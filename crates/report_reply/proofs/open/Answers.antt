-- Sentences 1 to 6 decide, or the opening does, with ledger and tally of the sizes that the season asks.
use mathlib.Core.Path.{◌∙◌}
use borrow.Author.Rules.{rules}
use Rattle.report_reply.proofs.Answered.{refused-early, opened-answers}
use Rattle.report_reply.proofs.open.Goals as goal

pub returns-in_err-found : goal.returns-in_err-found
returns-in_err-found c =
    let refused =
    refused-early c.args.input.now (c.split_at.ensures.front ∙ c.season_end.ensures.1) c.in_err-found.ensures.told c.args.tally.now in
    search rules

pub returns : goal.returns
returns c =
    opened-answers c.args.input.now (c.split_at.ensures.front ∙ c.season_end.ensures.1) c.in_ok-found.ensures.told _ _
    (search rules)
    (search rules)
    (c.split_at.ensures.back ∙ c.season_end.ensures.2)
    _
    _
    c.season_open.ensures
