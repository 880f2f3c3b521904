-- Before each turn the rows of the members passed are laid. Assumes nothing.
use Rattle.std.proofs.Common.{arith}
use Rattle.fairness.proofs.RunningCounts.{counted-room, counted-turn}
use Rattle.fairness.proofs.lay_teams.Goals as goal

pub lay_games-requires : goal.lay_games-requires
lay_games-requires c = counted-room c.loop-t.invariant c.in-Some.ensures.steps

pub bounds-rows-t : goal.bounds-rows-t
bounds-rows-t c = omega (arith, counted-room c.loop-t.invariant c.in-Some.ensures.steps, c.args.check.now.checkable.teams)

pub loop-t-preserved : goal.loop-t-preserved
loop-t-preserved c = counted-turn c.loop-t.invariant c.in-Some.ensures.steps c.lay_games.ensures
