-- Sentences 1 to 8, then the fresh books. Assumes nothing.
use borrow.Author.Rules.{rules}
use Rattle.checker.proofs.Exported.{fit, tied, open_refused, open_accepted}
use Rattle.checker.proofs.season_open.Goals as goal

pub invariant_of-books : goal.invariant_of-books
invariant_of-books c =
    let f = fit c.in_ok-found.ensures in record { sizes = f.sizes; rules = f.rules; ledger_length = f.ledger-length; tally_length = f.tally-length }

pub open-requires : goal.open-requires
open-requires c = tied c.in_ok-found.ensures

pub returns : goal.returns
returns c = let done = open_accepted c.in_ok-found.ensures c.open.ensures.opened in search rules

pub returns-in_err-found : goal.returns-in_err-found
returns-in_err-found c = let refused = open_refused c.in_err-found.ensures in search rules
