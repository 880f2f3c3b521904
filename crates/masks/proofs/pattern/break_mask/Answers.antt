-- The shift and the sum both wrap at 2 ^ 64, which is to wrap once.
use Rattle.std.proofs.Common.{ℕ, ◌-◌, ◌*◌, ◌^◌, ap, ◌∙◌, rules}
use Rattle.std.specs.Int.{w64}
use native.Mathlib.Nat.{add-mod-mod}
use lib.Bits.{bit_and}
use Rattle.robinx.specs.Groups.{bit}
use Rattle.masks.proofs.Carry.{carry-breaks}
use Rattle.masks.proofs.pattern.break_mask.Goals as goal

pub returns : goal.returns
returns c k l =
    let a = c.args in
    ap (λ (z : ℕ). bit (bit_and a.side z) k) (add-mod-mod (2 ^ 64 - 1 - a.all) (a.side * 2) (2 ^ 64))
    ∙ carry-breaks w64 a.side a.all (search rules) c.requires k l
