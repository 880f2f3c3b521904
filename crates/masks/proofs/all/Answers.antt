-- `u64::MAX >> (64 - p)` leaves p ones.
use Rattle.std.proofs.Common.{arith}
use Rattle.robinx.proofs.Bits.{all-below}
use Rattle.masks.proofs.all.Goals as goal

pub returns : goal.returns
returns c = all-below 64 c.args.p (omega arith)
