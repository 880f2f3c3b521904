-- The ones of both masks are a sum over the slots of one.
use Rattle.std.proofs.Common.{rules}
use Rattle.masks.proofs.Counts.{ones_over}
use Rattle.masks.proofs.count_in.Goals as goal

pub returns : goal.returns
returns c = ones_over c.args.m c.args.s 64 (search rules)
