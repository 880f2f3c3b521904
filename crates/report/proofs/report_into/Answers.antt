-- A refusal has its number; an opening that is accepted leaves the tally that the broken constraints are read from.
use mathlib.Core.Path.{◌≡◌}
use lib.ListN.{take}
use borrow.Author.Rules.{rules}
use Rattle.robinx.specs.Refusals.{first_true, of_season}
use Rattle.season.proofs.Found.{no-fault}
use Rattle.reader.proofs.Read.{constraints-read}
use Rattle.report_reply.proofs.Sixth.{has-sizes, few_words}
use Rattle.report.proofs.RowsReported.{refusal-reported, accepted-clear, rows-reported}
use Rattle.report.proofs.report_into.Goals as goal
use Rattle.report.proofs.report_into.Goals.{After-season_end}

pub returns-in_err-accepted : goal.returns-in_err-accepted
returns-in_err-accepted c =
    let refused = refusal-reported c.args.input.now c.in_err-accepted.field-0.0 c.in_err-accepted.ensures.0 in search rules

-- an accepted season has no fault
clear : (c : After-season_end) → first_true (of_season (take c.season_end.result c.args.input.now)) ≡ 0
clear c = rw c.season_end.ensures.1 (accepted-clear c.args.input.now c.in_ok-accepted.accepted c.in_ok-accepted.ensures.0)

pub sizes-sizes-requires : goal.sizes-sizes-requires
sizes-sizes-requires c = has-sizes _ (clear (goal.at.sizes-sizes-requires c).After-season_end)

pub invariant_of-find_broken : goal.invariant_of-find_broken
invariant_of-find_broken c = record {
  measured = (no-fault _ (clear (goal.at.invariant_of-find_broken c).After-season_end)).measured c.sizes-sizes.ensures.read;
}

pub find_broken-requires : goal.find_broken-requires
find_broken-requires c =
    let few = few_words _ (clear (goal.at.find_broken-requires c).After-season_end) c.sizes-sizes.ensures.read in
    (search rules, few)

pub returns : goal.returns
returns c =
    let told = c.in_ok-accepted.ensures in
    rows-reported c.args.input.now c.in_ok-accepted.accepted told.0 c.season_end.ensures.1 (constraints-read _ c.sizes-sizes.ensures.read) _ told.1
    c.find_broken.ensures
