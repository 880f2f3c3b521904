-- The pairs of a group of n teams, counted by its set bits, are those of the definitions. Assumes nothing.
use mathlib.Core.Path.{◌≡◌}
use Prim.Native.Nat.{ℕ, ◌^◌, ◌<◌}
use native.Mathlib.Omega.{arith}
use Rattle.robinx.specs.Groups.{pairs}
use Rattle.robinx.proofs.Bits.{all-below}
use Rattle.robinx.proofs.GroupSizes.{size-ones, pairs-size}
use Rattle.groups.specs.Pairs.{pairs_in}

pub pairs-in : (n T : ℕ) → T < 2 ^ n → pairs n T ≡ pairs_in T
unfolding pairs_in
pairs-in n T h = let e = rw (size-ones n T h) at (pairs-size T n) in omega arith

-- what the group of all teams needs
pub ruleset group_rules = (all-below)
