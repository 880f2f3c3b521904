-- Every turn lends out the stretch of a touched constraint, or writes nothing.
use Rattle.std.proofs.Common.{◌≡◌}
use Rattle.walk.specs.Reworked.{SameBooks}
use Rattle.walk.proofs.WalkTurns.{Walk}
use Rattle.walk.proofs.books.Books.walk.Given as goal

abbrev pub invariant-loop-k : goal.invariant-loop-k
invariant-loop-k l = record {
  next : goal.iterator-loop-k.can_next l.k-iterator;
  same : l.k-iterator.iter.season ≡ l.initial.self.season;
  books : SameBooks l.initial.self l.self;
  counted : l.k-iterator.iter.at ≡ l.k-iterator.count;
  walked : Walk l.initial.self l.touch l.tables.meets l.k-iterator.count l.at l.self.ledger.now l.self.tally.now l.sums;
}
