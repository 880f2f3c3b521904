-- The bytes of a word are written out; the first one is there without a division.
use Rattle.std.proofs.Common.{ℕ, ◌%◌, ◌∷◌, sym, ap, ◌∙◌}
use Rattle.std.specs.Int.{bytes_low_first}
use native.Mathlib.Nat.{div-one}
use Rattle.robinx.specs.Sums.{cat_to}
use Rattle.masks.proofs.bytes.Goals as goal

pub returns : goal.returns
unfolding cat_to
returns c = c.to_le_bytes.ensures ∙ ap (λ (z : ℕ). z % 256 ∷ bytes_low_first 1 7 c.args.s) (sym (div-one c.args.s))
