-- The home games less the slot that the run starts in: what this sets is the slots up to the next home game.
use Rattle.std.proofs.Common.{arith, rules}
use Rattle.std.specs.Int.{w64}
use Rattle.masks.proofs.Borrow.{trip-has}
use Rattle.masks.proofs.pattern.Pattern.trip_from.Goals as goal

pub returns : goal.returns
returns c k l =
    let a = c.args in
    trip-has w64 a.self.home _ a.a (search rules) (rw (← c.slot.ensures) (omega arith)) a.self.away k l
