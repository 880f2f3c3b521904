-- The mask's counts are those of its games. Assumes nothing.
use mathlib.Core.Path.{◌∙◌}
use Rattle.opponents.specs.Sides.{code_of}
use Rattle.fairness.proofs.RunningCounts.{running-of}
use Rattle.fairness.proofs.lay_games.Goals as goal

pub returns : goal.returns
returns c =
    c.lay.ensures ∙ running-of c.args.check.now (code_of c.args.sides) c.args.t c.against.result c.against.ensures
