-- The larger of the two numbers has the last slot.
use Rattle.std.proofs.Common.{arith, rules}
use Rattle.std.specs.Int.{w64}
use Rattle.masks.proofs.Ends.{last-larger}
use Rattle.masks.proofs.last_in.Goals as goal

pub returns : goal.returns
returns c = last-larger w64 c.args.s (search rules) 64 c.args.m (omega arith) (search rules)
