-- Sentences 9 and 10, then the tables. Assumes nothing.
use mathlib.Core.Path.{◌≡◌, ◌∙◌}
use Prim.Native.Nat.{◌<◌, ◌≤◌}
use native.Mathlib.Omega.{arith}
use borrow.Author.Rules.{rules}
use Rattle.walk.specs.Reworked.{instance_of, lent}
use Rattle.calls.proofs.CallNumbers.{set-refused-by, set-passes}
use Rattle.calls.proofs.Accept.{few-slots}
use Rattle.sets.proofs.set.Goals as goal
use Rattle.sets.proofs.set.Goals.{After-try_from, After-unwrap-b}

-- the numbers are those of a game and of a slot
passed : (c : After-try_from) → (c.args.game < (instance_of c.args.books.now).G) × (c.args.slot ≤ (instance_of c.args.books.now).P)
passed c =
    let a = c.args in
    set-passes _ a.books.now.season.measured.sizes (lent a.sheet.now a.books.now) a.game a.slot c.in_ok-g.ensures.0

-- .. so that of the slot is a byte
byte : (c : After-try_from) → c.in_ok-g.slot < 256
byte c = omega (arith, c.in_ok-g.ensures.1.1, (passed c).1, few-slots c.requires)

pub unwrap-b-requires : goal.unwrap-b-requires
unwrap-b-requires c = let small = byte c in search rules

same : (c : After-unwrap-b) → c.unwrap-b.result ≡ c.args.slot
same c = (rw c.unwrap-b.ensures at c.try_from.ensures).1 ∙ c.in_ok-g.ensures.1.1

pub set_to-requires : goal.set_to-requires
set_to-requires c =
    let at = goal.at.set_to-requires c in
    let p = passed at.After-try_from in
    (c.requires, rw c.in_ok-g.ensures.1.0 p.0, rw (same at.After-unwrap-b) p.1)

pub returns-in_err-g-clause-outcome : goal.returns-in_err-g-clause-outcome
returns-in_err-g-clause-outcome c =
    let a = c.args in
    let sizes = a.books.now.season.measured.sizes in
    let refused = set-refused-by _ sizes (lent a.sheet.now a.books.now) a.game a.slot c.in_err-g.field-0.0 c.in_err-g.ensures.0 in search rules
