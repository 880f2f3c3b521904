-- A count of set bits is a sum over slots.
use Rattle.std.proofs.Common.{◌≡◌, ℕ, ◌^◌, ◌<◌, Bool, true, false, ◌&&◌, sym, refl, ap, ◌∙◌, arith}
use lib.Bits.{bit_and, and_le_r}
use lib.Count.{ones}
use Rattle.robinx.specs.Sums.{only}
use Rattle.robinx.specs.Groups.{bit, has, size}
use Rattle.robinx.specs.Deviations.{over}
use Rattle.robinx.proofs.Ext.{sum-ext}
use Rattle.robinx.proofs.GroupSizes.{only-bit, size-ones}
use Rattle.robinx.proofs.Bits.{and-has}

both-only : (a b : Bool) → only (a && b) 1 ≡ only b (only a 1)
both-only true true = refl
both-only true false = refl
both-only false true = refl
both-only false false = refl

pub ones_over : (m s P : ℕ) → s < 2 ^ P → ones (bit_and m s) ≡ over P s (bit m)
unfolding over size
ones_over m s P h =
    sym (size-ones P (bit_and m s) (omega (arith, and_le_r m s)))
    ∙ sum-ext P (λ k l. ap (λ (t : Bool). only t 1) (and-has m s k) ∙ both-only (has m k) (has s k) ∙ ap (only (has s k)) (only-bit m k))
