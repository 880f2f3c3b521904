-- Away games that are no break.
use Rattle.std.proofs.Common.{rules}
use Rattle.std.specs.Int.{w64}
use Rattle.masks.proofs.Carry.{within-left}
use Rattle.masks.proofs.TripStarts.{start_has}
use Rattle.masks.proofs.pattern.Pattern.trip_starts.Goals as goal

pub break_mask-requires : goal.break_mask-requires
break_mask-requires c = rw c.union.ensures (within-left c.args.self.away c.args.self.home)

pub returns : goal.returns
returns c k l =
    let a = c.args.self in
    start_has w64 a.away a.home c.break_mask.result k (search rules) l (rw (← c.union.ensures) (c.break_mask.ensures k l))
