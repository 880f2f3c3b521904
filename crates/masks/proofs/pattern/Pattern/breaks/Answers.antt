-- Breaks are games, and no slot has two: of a slot's bits in the two break masks the larger is the sum.
use Rattle.std.proofs.lemmas.Nat.Bits.{bit_at_or}
use Rattle.std.proofs.Common.{◌≡◌, ℕ, ◌+◌, ◌≤◌, max, Bool, ◌&&◌, eqb, refl, ◌∙◌, arith}
use Rattle.robinx.specs.Sums.{only}
use Rattle.robinx.specs.Groups.{bit, has}
use Rattle.robinx.proofs.Bits.{at_bits}
use Rattle.robinx.proofs.Ext.{over-ext}
use Rattle.masks.proofs.pattern.Pattern.breaks.Goals as goal

larger : (p q : Bool) (m n k : ℕ) → bit m k + bit n k ≤ 1
    → max (only (has m k && p) 1) (only (has n k && q) 1) ≡ only (has m k && p) 1 + only (has n k && q) 1
larger p q =
    at_bits (λ x y. x + y ≤ 1 → max (only (eqb x 1 && p) 1) (only (eqb y 1 && q) 1) ≡ only (eqb x 1 && p) 1 + only (eqb y 1 && q) 1)
    (λ h. refl) (λ h. omega arith) (λ h. omega arith) (λ h. absurd (omega arith))

pub returns : goal.returns
returns c =
    c.count_in.ensures ∙ over-ext 64 c.args.s (λ k l e.
    rw (c.union.ensures, bit_at_or c.break_mask.result c.break_mask-2.result k, c.break_mask.ensures k l, c.break_mask-2.ensures k l)
    (larger _ _ c.args.self.home c.args.self.away k (c.requires.2 k l)))
