-- The ones below slot p keep the number modulo 2 ^ p.
use Rattle.std.proofs.Common.{ℕ, ◌-◌, ap, ◌∙◌}
use lib.Bits.{bit_and, and_mask}
use Rattle.masks.proofs.front.Goals as goal

pub returns : goal.returns
returns c = ap (λ (z : ℕ). bit_and c.args.m (z - 1)) c.slot.ensures ∙ and_mask c.args.m c.args.p
