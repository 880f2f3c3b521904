-- `rows::eight` meets its contract: its word is computed for each of the 256 bytes. Assumes nothing.
use mathlib.Core.Path.{◌≡◌, refl}
use mathlib.Core.Bool.{Bool, false, not, ◌&&◌}
use Prim.Native.Nat.{ℕ, ◌+◌, ◌*◌, ◌/◌, ◌%◌, ◌^◌, ◌<◌}
use native.Mathlib.Omega.{arith}
use lib.Bits.{bit_and}
use lib.Dec.{eqb, ltb}
use borrow.Author.Rules.{rules}
use borrow.Author.Tests.{eqb-true, ltb-true, not-false}
use Rattle.std.proofs.lemmas.Bool.{and_parts}
use Rattle.robinx.specs.Sums.{sum_to, any_to}
use Rattle.robinx.proofs.Sums.{any_none}
use Rattle.rows.specs.Rows.{up_to, packed}
use Rattle.rows.proofs.eight.Goals as goal
use Rattle.rows.proofs.eight.Goals.{After-from}

-- a word and itself, k bits up
abbrev summed : ℕ → ℕ → ℕ
summed k w = w + w * 2 ^ k % 2 ^ 64

abbrev word : ℕ → ℕ
word b =
    summed 32 (summed 16 (summed 8
    (bit_and ((bit_and (b * 0x0101010101010101) 0x8040201008040201 + 0x00406070787c7e7f) / 2 ^ 7) 0x0101010101010101)))

right : ℕ → Bool
right b = ltb (word b) (2 ^ 64) && eqb (word b) (packed (up_to b) 8)

none-wrong : any_to (λ b. not (right b)) 256 ≡ false
unfolding any_to right packed sum_to
none-wrong = refl

whole : (c : After-from) → (word c.from.result < 2 ^ 64) × (word c.from.result ≡ packed (up_to c.args.byte) 8)
unfolding right
whole c =
    let b = c.args.byte in
    let r = and_parts _ _ (not-false _ (any_none (λ b. not (right b)) 256 none-wrong b (search rules))) in
    rw c.from.ensures (ltb-true (word b) (2 ^ 64) r.0, eqb-true (word b) (packed (up_to b) 8) r.1)

pub overflow_add-two : goal.overflow_add-two
overflow_add-two c = omega (arith, (whole c).0)

pub overflow_add-four : goal.overflow_add-four
overflow_add-four c = omega (arith, (whole c).0)

pub overflow_add-result : goal.overflow_add-result
overflow_add-result c = omega (arith, (whole c).0)

pub returns : goal.returns
returns c = (whole c).1
