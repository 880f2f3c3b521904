-- Before each turn the words passed are the masks of their teams. Assumes nothing.
use Rattle.between.specs.Between.{hosts, MasksOf, of_meetings}
use Rattle.between.proofs.Meetings.lay_hosted.Given as goal

abbrev pub invariant-loop-i : goal.invariant-loop-i
invariant-loop-i l = MasksOf (of_meetings hosts l.self) l.words l.i
