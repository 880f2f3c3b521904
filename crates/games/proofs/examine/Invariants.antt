-- After g games the table has their meetings.
use Rattle.std.proofs.Common.{length}
use Rattle.games.proofs.Meetings.{MeetingsCounted}
use Rattle.games.proofs.examine.Given as goal

abbrev pub invariant-loop-i : goal.invariant-loop-i
invariant-loop-i l = MeetingsCounted l.n l.homes l.aways l.meetings (length l.yielded)
