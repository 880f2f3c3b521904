-- Before each turn, before counts the slots of the bytes passed. Assumes nothing.
use mathlib.Core.Path.{◌≡◌}
use Prim.Native.Nat.{◌*◌}
use lib.ListN.{take}
use Rattle.robinx.specs.Sums.{sum_to, list_to}
use Rattle.robinx.specs.Groups.{bit}
use Rattle.rows.specs.Rows.{up_to}
use Rattle.rows.proofs.lay.Given as goal

abbrev pub invariant-loop-at : goal.invariant-loop-at
invariant-loop-at l = record {
  count : l.before ≡ sum_to (bit l.v) (8 * l.at);
  laid : take (8 * l.at) l.row ≡ list_to (up_to l.v) (8 * l.at);
}
