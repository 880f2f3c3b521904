-- Each constraint in turn: those below c that are broken have a row, at most all.
use borrow.Author.Rules.{rules}
use Rattle.robinx.specs.Season.{decode}
use Rattle.report.proofs.Broken.{none_yet, not-broken, row-more, penalty-read}
use Rattle.report.proofs.find_broken.Goals as goal

pub loop-number-init : goal.loop-number-init
loop-number-init c = rw c.clear.ensures (record { few = search rules; rows = λ sheet f. none_yet (decode c.args.season.bytes.now) sheet })

pub loop-number-preserved-then-penalty-eq0 : goal.loop-number-preserved-then-penalty-eq0
loop-number-preserved-then-penalty-eq0 c = record {
  few = search rules;
  rows = λ sheet f.
      let e = penalty-read _ sheet _ f c.args.season.measured.sizes c.loop-number-test.true in
      rw (← not-broken (decode c.args.season.bytes.now) sheet c.loop-number.number e c.if-penalty-eq0.true) (c.loop-number.invariant.rows sheet f);
}

pub loop-number-preserved : goal.loop-number-preserved
loop-number-preserved c = record {
  few = search rules;
  rows = λ sheet f.
      let e = penalty-read _ sheet _ f c.args.season.measured.sizes c.loop-number-test.true in
      rw c.push.ensures.items
      (row-more (decode c.args.season.bytes.now) sheet c.loop-number.number e c.constraint.ensures c.if-penalty-eq0.false _
      (c.loop-number.invariant.rows sheet f));
}
