-- A turn finds a breach, or keeps one more constraint.
use Prim.Native.Nat.{◌+◌}
use native.Mathlib.Omega.{arith}
use Rattle.reader.proofs.Read.{in-range}
use Rattle.robinx.specs.Season.{decode}
use Rattle.season.proofs.Pass.{Kept, kept-none, kept-more, few, broken, kept-all}
use Rattle.season.proofs.examine_constraints.Goals as goal
use Rattle.season.proofs.examine_constraints.Goals.{After-entries_of-entries}

-- the constraint that was read is passed
passed : (c : After-entries_of-entries)
    → Kept (decode c.args.season.bytes.now) (c.loop-c.c-iterator.at + 1) (c.loop-c.entries + c.entries_of-entries.result)
passed c =
    let here = rw c.loop-c.invariant.same at c.in-Some.ensures.steps.constraint in
    kept-more c.args.season c.loop-c.invariant.kept here c.if-not-obeys.ensures c.entries_of-entries.ensures

pub loop-c-init : goal.loop-c-init
loop-c-init c =
    let e = c.into_iter-c-iterator.ensures.into_iter_gives in
    let new = c.constraints-c-items.ensures in
    record { same = rw e new.0; kept = rw (e, new.1) (kept-none (decode c.args.season.bytes.now)) }

pub invariant_of-dimensions : goal.invariant_of-dimensions
invariant_of-dimensions c = record { in_range = omega (arith, in-range c.args.season.sizes c.requires) }

pub returns-then-not-obeys : goal.returns-then-not-obeys
returns-then-not-obeys c =
    let same = c.loop-c.invariant.same in
    let step = c.in-Some.ensures.steps in
    broken c.args.season c.loop-c.c-iterator.at (rw same at step.below) (rw same at step.constraint) c.if-not-obeys.ensures

pub overflow_add-entries : goal.overflow_add-entries
overflow_add-entries c =
    let range = in-range c.args.season.sizes c.requires in
    let below = rw c.loop-c.invariant.same at c.in-Some.ensures.steps.below in
    record { fits = omega (arith, few c.args.season range (passed c), range.constraints, below) }

pub loop-c-preserved : goal.loop-c-preserved
loop-c-preserved c =
    let step = c.in-Some.ensures.steps in
    record { same = rw step.season c.loop-c.invariant.same; kept = rw step.at (passed c) }

pub returns : goal.returns
returns c = kept-all c.args.season (rw c.loop-c.invariant.same at c.in-None.ensures.steps) c.loop-c.invariant.kept
