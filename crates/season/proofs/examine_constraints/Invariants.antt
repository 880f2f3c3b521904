-- The constraints that the cursor passed keep the rules, and their deviations are counted.
use Rattle.std.proofs.Common.{◌≡◌}
use Rattle.robinx.specs.Season.{decode}
use Rattle.season.proofs.Pass.{Kept}
use Rattle.season.proofs.examine_constraints.Given as goal

abbrev pub invariant-loop-c : goal.invariant-loop-c
invariant-loop-c l = record {
  same : l.c-iterator.season ≡ l.season;
  kept : Kept (decode l.season.bytes.now) l.c-iterator.at l.entries;
}
