-- Before each turn the rows of the members passed are laid. Assumes nothing.
use Rattle.opponents.specs.Sides.{code_of}
use Rattle.fairness.proofs.RunningCounts.{CountedPassed}
use Rattle.fairness.proofs.lay_teams.Given as goal

abbrev pub invariant-loop-t : goal.invariant-loop-t
invariant-loop-t l = CountedPassed l.check (code_of l.sides) l.t-iterator.rest l.rows
