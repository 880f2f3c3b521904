-- `counts::team_runs` meets its contract. Assumes nothing.
use mathlib.Core.Path.{◌∙◌}
use Rattle.counts.proofs.TeamFigures.{run-games}
use Rattle.counts.proofs.team_runs.Goals as goal

pub returns : goal.returns
returns c =
    c.mask_runs.ensures
    ∙ rw (c.range.ensures, c.saturating_sub-runs.ensures, c.from-w.ensures) (run-games c.args.check.now c.args.t c.counted.result c.counted.ensures)
