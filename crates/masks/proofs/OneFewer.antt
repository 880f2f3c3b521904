-- A sum over the slots of a mask is that over its others and the part of one, whichever slot that is. Assumes nothing.
use Rattle.std.proofs.Common.{◌≡◌, ℕ, ◌+◌, ◌<◌, Bool, true, eqb, ap, ◌∙◌}
use Rattle.robinx.specs.Sums.{sum_to, only}
use Rattle.robinx.specs.Groups.{has}
use Rattle.robinx.specs.Deviations.{over}
use Rattle.bits.proofs.Figures.{sum-but-one}
use Rattle.masks.specs.Masks.{without}
use Rattle.masks.proofs.OneSlot.{without-here, without-there}

pub over-one-fewer : (P m a : ℕ) (g : ℕ → ℕ) → a < P → has m a ≡ true → over P m g ≡ g a + over P (without m a) g
unfolding over
over-one-fewer P m a g l e =
    sum-but-one a
    (λ k n. ap (λ (z : ℕ). only (eqb z 1) (g k)) (without-there m a k n))
    (ap (λ (z : ℕ). only (eqb z 1) (g a)) (without-here m a))
    P l
    ∙ ap (λ (b : Bool). only b (g a) + sum_to (λ k. only (has (without m a) k) (g k)) P) e
