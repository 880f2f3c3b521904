-- `bits::SetBits::next` meets its contract: the count of trailing zeros is the place of the lowest set bit. Assumes nothing.
use Rattle.std.proofs.Common.{rules, arith}
use Rattle.bits.proofs.Lowest.{lowest}
use Rattle.bits.proofs.Figures.{size-lowest}
use Rattle.bits.proofs.SetBitsIterator.next.Goals as goal

pub returns-clause-steps : goal.returns-clause-steps
returns-clause-steps c = lowest c.args.self.now.rest (search rules) (omega (arith, c.if-self-eq0.false))

pub returns-clause-goes : goal.returns-clause-goes
returns-clause-goes c =
    let l = lowest c.args.self.now.rest (search rules) (omega (arith, c.if-self-eq0.false)) in search (rules, size-lowest l 64 l.room)
