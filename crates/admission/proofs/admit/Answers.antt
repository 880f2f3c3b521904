-- The tests in their order. Assumes nothing.
use borrow.Author.Rules.{rules}
use Rattle.robinx.specs.Calls.{Buffers, buffers}
use Rattle.admission.proofs.Entry.{season-refused, few-constraints, lengths-refused, buildable, sheet-refused, admitted}
use Rattle.admission.proofs.admit.Goals as goal
use Rattle.admission.proofs.admit.Goals.{Start}

abbrev lent : Start → Buffers
lent c = buffers c.args.sheet.now c.args.ledger.now c.args.tally.now

pub returns-in_err-found : goal.returns-in_err-found
returns-in_err-found c =
    let refused = season-refused _ (lent (goal.at.returns-in_err-found c).Start) {t = c.args.tables.now} c.in_err-found.ensures in search rules

pub check_lengths-requires : goal.check_lengths-requires
check_lengths-requires c = few-constraints _ (lent (goal.at.check_lengths-requires c).Start) c.in_ok-found.ensures

pub returns-in_err-check_lengths : goal.returns-in_err-check_lengths
returns-in_err-check_lengths c =
    let refused = lengths-refused _ (lent (goal.at.returns-in_err-check_lengths c).Start) c.in_ok-found.ensures {t = c.args.tables.now}
    c.in_err-check_lengths.ensures in
    search rules

pub lay_tables-requires : goal.lay_tables-requires
lay_tables-requires c =
    let x = c.in_ok-found.ensures in
    let may = buildable _ (lent (goal.at.lay_tables-requires c).Start) x c.in_ok-check_lengths.ensures in
    rw x.found.same (may.0, may.1, may.2, c.requires)

pub returns-in_err-unplaced : goal.returns-in_err-unplaced
returns-in_err-unplaced c =
    let x = c.in_ok-found.ensures in
    let refused = sheet-refused _ (lent (goal.at.returns-in_err-unplaced c).Start) x c.in_ok-check_lengths.ensures (rw x.found.same at c.in_err-unplaced.ensures) in
    search rules

pub returns : goal.returns
returns c =
    let x = c.in_ok-found.ensures in
    admitted _ _ x c.in_ok-check_lengths.ensures x.found.same (rw x.found.same at c.in_ok-unplaced.ensures)
