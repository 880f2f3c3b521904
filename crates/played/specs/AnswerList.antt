-- A list of answers, of which the last one and the sums of the changes are kept, modulo 2^64.
use Rattle.std.specs.Prelude.{Result}
use Rattle.robinx.specs.declared.Refusal.{Refusal}
use Rattle.robinx.specs.declared.Reply.{Reply}
use Rattle.totals.specs.declared.Totals.{Totals}
use Rattle.totals.specs.RunningTotals.{moved_by}
use Rattle.replies.specs.Reply.{reply_of}
use Rattle.replies.specs.declared.Accepted.{Accepted}
use Rattle.played.specs.declared.Played.{Played}
use Rattle.played.specs.Word.{word}

-- the changes in a reply
abbrev pub reply_changes : Reply → Totals
reply_changes r = record { hard = word r.infeasibility; soft = word r.objective }

-- the first answer, and one answer more
abbrev pub begun : Result Accepted Refusal → Played
begun r = record { answer = r; sums = reply_changes (reply_of r) }

abbrev pub with_answer : Played → Result Accepted Refusal → Played
with_answer p r = record { answer = r; sums = moved_by p.sums (reply_changes (reply_of r)) }
