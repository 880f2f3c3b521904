-- Before each turn the sum is that of the games up to the last one passed.
use Rattle.masks.proofs.GapWalk.{Summed}
use Rattle.masks.proofs.closeness.Given as goal

abbrev pub invariant-loop-k : goal.invariant-loop-k
invariant-loop-k l = Summed l.v l.w l.c l.far l.k-iterator.rest
