-- Before turn g the first g games are placed and fit. Assumes nothing.
use Rattle.std.proofs.Common.{length}
use Rattle.timetable.proofs.BuildTurns.{Begun}
use Rattle.timetable.proofs.build.Given as goal

abbrev pub invariant-loop-home : goal.invariant-loop-home
invariant-loop-home l = Begun l.p l.games.homes.now l.games.aways.now l.sheet (length l.yielded) l.tables l.unplaced
