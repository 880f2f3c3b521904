-- `breaks::team_breaks` meets its contract. Assumes nothing.
use mathlib.Core.Path.{◌∙◌}
use Rattle.opponents.proofs.Checkable.{over-slots}
use Rattle.breaks.proofs.TeamBreaks.{asked-sides, few-breaks, team-breaks}
use Rattle.breaks.proofs.team_breaks.Goals as goal

pub breaks-requires : goal.breaks-requires
breaks-requires c =
    asked-sides c.args.check.now.checkable.tied c.args.t c.requires _ _ c.asked-asked.ensures c.union-all.ensures

pub returns : goal.returns
returns c =
    let k = c.args.check.now.checkable in (
      rw (c.breaks.ensures, c.asked-asked.ensures.0, c.asked-asked.ensures.1, c.union-all.ensures, c.of_mode-sides.ensures)
          (over-slots k _ ∙ team-breaks k.tied c.args.t c.requires _ c.args.check.now.constraint k.slots),
      rw c.breaks.ensures (few-breaks 64 c.args.check.now.constraint.s _ _),
    )
