-- Every turn lends out the stretch of a touched constraint, or writes nothing.
use borrow.Author.Rules.{rules}
use mathlib.Core.Path.{◌≡◌, refl, sym, ◌∙◌}
use native.Mathlib.Omega.{arith}
use Rattle.walk.proofs.WalkTurns.{WalkTurn, turn, all}
use Rattle.walk.proofs.Walked.{walked_none, walked-done, same_twice}
use Rattle.walk.proofs.books.Books.walk.Goals as goal
use Rattle.walk.proofs.books.Books.walk.Goals.{After-entries_of}

pub loop-k-init : goal.loop-k-init
loop-k-init c =
    let none : c.default-sums.result ≡ record { gained = record { hard = 0; soft = 0 }; lost = record { hard = 0; soft = 0 } } = search rules in
    let new = c.constraints.ensures in
    let e = c.enumerate-k-items.ensures in
    rw c.into_iter-k-iterator.ensures.into_iter_gives (record {
      next = search rules;
      same = rw e.source new.0;
      books = record { season = refl; ledger = refl; tally = refl };
      counted = rw (e.source, e.count) new.1;
      walked = rw (none, e.count) (walked_none _ _ _ _ _ _ refl refl);
    })

-- what holds of a turn once its constraint has been read
here : (c : After-entries_of)
    → let l = c.loop-k in
    let a = c.args in
    WalkTurn a.self.now a.self.now.season.sizes a.touch a.tables.now l.k-iterator.count l.at l.self.ledger.now l.self.tally.now l.sums
    c.in-Some.constraint
    c.entries_of.result
here c =
    let v = c.loop-k.invariant in
    let read = c.in-Some.ensures.steps.0 in
    let below = rw (v.counted, v.same) at read.below in
    let constraint = rw (v.counted, v.same) at read.constraint in
    turn c.args.self.now c.args.self.now.season.measured.sizes c.requires c.args.touch v.walked below constraint c.entries_of.ensures

pub overflow_add-end : goal.overflow_add-end
overflow_add-end c =
    let t = here (goal.at.overflow_add-end c).After-entries_of in
    record { fits = omega (arith, t.fits, c.loop-k.invariant.walked.laid.long) }

pub invariant_of-check : goal.invariant_of-check
invariant_of-check c = record { checkable = (here (goal.at.invariant_of-check c).After-entries_of).ready }

pub renew-sums-requires : goal.renew-sums-requires
renew-sums-requires c =
    let t = here (goal.at.renew-sums-requires c).After-entries_of in
    (omega arith, t.fits, t.room, rw c.in-Some.ensures.steps.1 t.counted)

pub loop-k-preserved-then-touched : goal.loop-k-preserved-then-touched
loop-k-preserved-then-touched c =
    let t = here (goal.at.loop-k-preserved-then-touched c).After-entries_of in
    let v = c.loop-k.invariant in
    let step = c.in-Some.ensures.steps in
    let done = c.renew-sums.ensures in
    record {
      next = search rules;
      same = rw step.0.season v.same;
      books = same_twice v.books done.same;
      counted = rw (step.0.at, step.2, v.counted);
      walked = rw step.2
          (t.reworked (sym c.touches-touched.ensures ∙ c.if-touched.true) done.stretch (rw step.1 at done.stored)
          done.sums.0
          (rw step.1 at done.sums.1));
    }

pub loop-k-preserved : goal.loop-k-preserved
loop-k-preserved c =
    let t = here (goal.at.loop-k-preserved c).After-entries_of in
    let v = c.loop-k.invariant in
    let step = c.in-Some.ensures.steps in
    record {
      next = search rules;
      same = rw step.0.season v.same;
      books = v.books;
      counted = rw (step.0.at, step.2, v.counted);
      walked = rw step.2 (t.kept (sym c.touches-touched.ensures ∙ c.if-touched.false));
    }

pub returns-clause-reworked : goal.returns-clause-reworked
returns-clause-reworked c =
    let v = c.loop-k.invariant in
    let end = rw (v.same, v.counted) at c.in-None.ensures.steps.0 in
    walked-done v.walked (end ∙ all c.args.self.now)
