-- The figures of the pairs are their deviations. Assumes nothing.
use Prim.Native.Nat.{◌<◌}
use borrow.Author.Rules.{rules}
use native.Mathlib.Omega.{arith}
use Rattle.robinx.specs.Deviations.{dev_fa2}
use Rattle.opponents.specs.Sides.{code_of}
use Rattle.opponents.proofs.Checkable.{limits}
use Rattle.fairness.proofs.RunningCounts.{held-apart, apart-in-s}
use Rattle.fairness.proofs.fill_fa2.Goals as goal

pub returns : goal.returns
unfolding dev_fa2
returns c =
    let k = c.args.check.now in
    let rows = c.lay_teams.ensures.row in
    rw (← c.of_mode.ensures) (c.fill_pairs.ensures _ _ k.checkable.teams (limits k.checkable).t1 (λ i j l m hi hj v p.
    let li : i < k.sizes.teams = omega arith in
    let held = held-apart c.spread-marks.result k.constraint.kmax _ _ (rows i li hi) (rows j m hj) in
    let w = apart-in-s k c.spread-marks.ensures (code_of c.of_mode.result) (code_of c.of_mode.result) i j li m in
    search rules))
