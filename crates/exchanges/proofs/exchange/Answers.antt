-- Sentences 9, 11 and 12, then the tables. Assumes nothing.
use native.Mathlib.Omega.{arith}
use borrow.Author.Rules.{rules}
use Rattle.walk.specs.Reworked.{lent}
use Rattle.reader.proofs.Read.{games-read}
use Rattle.calls.proofs.CallNumbers.{exchange-refused-by, exchange-passes}
use Rattle.calls.proofs.Accept.{as-many-slots}
use Rattle.exchanges.proofs.exchange.Goals as goal

pub exchange_arguments-requires : goal.exchange_arguments-requires
exchange_arguments-requires c = omega (arith, as-many-slots c.requires, games-read _ c.args.books.now.season.measured.sizes)

pub swap-requires : goal.swap-requires
swap-requires c =
    let a = c.args in
    let told = c.in_ok-g.ensures in
    let p = exchange-passes _ a.books.now.season.measured.sizes (lent a.sheet.now a.books.now) a.game a.other told.0 in
    rw (told.1.0, told.1.1) (c.requires, p.0, p.1, p.2, p.3)

pub returns-in_err-g-clause-outcome : goal.returns-in_err-g-clause-outcome
returns-in_err-g-clause-outcome c =
    let a = c.args in
    let sizes = a.books.now.season.measured.sizes in
    let refused = exchange-refused-by _ sizes (lent a.sheet.now a.books.now) a.game a.other c.in_err-g.field-0.0 c.in_err-g.ensures.0 in search rules
