-- A list of replies, of which the last one and the sums of the changes are kept, modulo 2^64.
use Rattle.std.specs.Prelude.{◌+◌, ◌%◌, ◌^◌}
use Rattle.robinx.specs.declared.Reply.{Reply}
use Rattle.played.specs.declared.reply_list.PlayedReplies.{PlayedReplies}
use Rattle.played.specs.Word.{word}

-- the first reply, and one reply more
abbrev pub begun : Reply → PlayedReplies
begun r = record { reply = r; infeasibility = word r.infeasibility; objective = word r.objective }

abbrev pub with_reply : PlayedReplies → Reply → PlayedReplies
with_reply p r = record {
  reply = r;
  infeasibility = (p.infeasibility + word r.infeasibility) % 2 ^ 64;
  objective = (p.objective + word r.objective) % 2 ^ 64;
}
