-- What a call answers, as the reply of the C interface (FORMAT 5).
use Rattle.std.specs.Prelude.{Result, Ok, Err}
use Rattle.std.specs.Int.{w64}
use Rattle.std.proofs.Common.{to_z}
use Rattle.robinx.specs.Calls.{declined, accepted}
use Rattle.robinx.specs.RefusalNumbers.{number_of}
use Rattle.robinx.specs.declared.Refusal.{Refusal}
use Rattle.robinx.specs.declared.Reply.{Reply}
use Rattle.replies.specs.declared.Accepted.{Accepted}
use Rattle.replies.specs.Verdict.{verdict_number}

-- a verdict with the changes read as two's complement, or the number of a refusal
abbrev pub reply_of : Result Accepted Refusal → Reply
reply_of (Ok a) = accepted (verdict_number a.verdict) (to_z w64 a.change.hard) (to_z w64 a.change.soft)
reply_of (Err r) = declined (number_of r)
