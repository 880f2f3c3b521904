-- The figures of the members are their deviations. Assumes nothing.
use borrow.Author.Rules.{rules}
use Rattle.robinx.specs.Timetable.{home_side, away_side}
use Rattle.robinx.specs.Deviations.{dev_fa1}
use Rattle.opponents.proofs.Checkable.{each_team}
use Rattle.fairness.proofs.RunningCounts.{apart-in-s}
use Rattle.fairness.proofs.fill_fa1.Goals as goal

pub returns : goal.returns
unfolding dev_fa1
returns c =
    let k = c.args.check.now in
    each_team k.checkable _ c.fill_each.ensures
    (λ t l h v p. let w = apart-in-s k c.spread-marks.ensures home_side away_side t t l l in search rules)
