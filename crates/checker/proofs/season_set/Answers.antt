-- Sentences 1 to 8, then the call. Assumes nothing.
use borrow.Author.Rules.{rules}
use Rattle.robinx.specs.Calls.{Call}
use Rattle.checker.proofs.Exported.{fit, call_refused, call_passed}
use Rattle.checker.proofs.season_set.Goals as goal

pub invariant_of-books : goal.invariant_of-books
invariant_of-books c =
    let f = fit c.in_ok-found.ensures in record { sizes = f.sizes; rules = f.rules; ledger_length = f.ledger-length; tally_length = f.tally-length }

pub returns : goal.returns
returns c = let done = call_passed c.in_ok-found.ensures (Call.set_slot c.args.game c.args.slot) c.set.ensures.outcome in search rules

pub returns-in_err-found : goal.returns-in_err-found
returns-in_err-found c = let refused = call_refused c.in_err-found.ensures (Call.set_slot c.args.game c.args.slot) in search rules
