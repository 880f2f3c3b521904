-- The two rows hold the counts of the two sides. Assumes nothing.
use mathlib.Core.Path.{◌∙◌}
use Rattle.fairness.proofs.RunningCounts.{held-apart}
use Rattle.fairness.proofs.imbalance.Goals as goal

pub returns : goal.returns
returns c =
    c.rows_apart.ensures ∙ held-apart c.args.marks.now c.args.check.now.constraint.kmax _ _ c.lay_games.ensures c.lay_games-2.ensures
