-- `m & !slot(k)` is the mask with slot k, less it.
use Rattle.std.proofs.Common.{◌^◌, ◌<◌, rules}
use Rattle.std.specs.Int.{w64}
use lib.Pow.{pow-lt}
use Rattle.masks.proofs.OneSlot.{and-not}
use Rattle.masks.proofs.without.Goals as goal

pub returns : goal.returns
returns c = let l : c.args.k < 64 = search rules in rw c.slot.ensures (and-not w64 c.args.m (2 ^ c.args.k) (search rules) (pow-lt l))
