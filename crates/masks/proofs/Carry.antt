-- The slots of a side's breaks by one addition: the complement of all games plus the side's games, each one slot later. A slot without a
-- game is a 1 and hands a carry on, a slot with one is a 0 and keeps it: the carry into a slot says that the last game was of the side.
use Rattle.std.proofs.Common.{◌≡◌, ℕ, zero, suc, ◌+◌, ◌-◌, ◌*◌, ◌/◌, ◌%◌, ◌^◌, ◌<◌, ◌≤◌, min, Bool, cond, ◌&&◌, eqb}
use Rattle.std.proofs.Common.{sym, refl, ap, ◌∙◌, ap₂, div-one, add-one, arith, shr-shr}
use Rattle.std.specs.Int.{Width, bit_not}
use Rattle.std.proofs.lemmas.Nat.Bits.{bit_at_not, bit_at_and, bit_at_or}
use mir.Val.{bits}
use lib.Bits.{bit_and, bit_or}
use Rattle.robinx.specs.Sums.{only}
use Rattle.robinx.specs.Groups.{bit, has}
use Rattle.robinx.specs.Timetable.{last_was}
use Rattle.robinx.proofs.Sums.{only-le}
use Rattle.robinx.proofs.Ext.{last_was-ext}
use Rattle.masks.specs.Masks.{Within, is_break}
use Rattle.robinx.proofs.Bits.{at_bits, mod-bit}

shr-suc : (n k : ℕ) → n / 2 ^ suc k ≡ n / 2 ^ k / 2
shr-suc n k = ap (λ (z : ℕ). n / 2 ^ z) (sym (add-one k)) ∙ sym (shr-shr n k 1)

-- the carry into slot k of f + s · 2, with what s itself brings to k
unfoldable pub carry : ℕ → ℕ → ℕ → ℕ
carry f s zero = 0
carry f s (suc k) = bit s k + (bit f k + carry f s k) / 2

sum-shr : (f s k : ℕ) → (f + s * 2) / 2 ^ k ≡ f / 2 ^ k + s / 2 ^ k * 2 + carry f s k
unfolding carry
sum-shr f s zero = omega (arith, div-one f, div-one s, div-one (f + s * 2))
sum-shr f s (suc k) = omega (arith, shr-suc (f + s * 2) k, shr-suc f k, shr-suc s k, sum-shr f s k)

pub sum-bit : (f s k : ℕ) → bit (f + s * 2) k ≡ (bit f k + carry f s k) % 2
sum-bit f s k = omega (arith, sum-shr f s k)

module _ (w : Width) (side all : ℕ) (h : all < 2 ^ bits w) (part : Within side all) where
  last : ℕ → Bool
  last = last_was (has all) (has side)

  -- one slot more
  carry-on : (k : ℕ) (l : Bool) → only (cond (has all k) (has side k) l) 1 ≡ bit side k + (1 - bit all k + only l 1) / 2
  carry-on k l =
      at_bits (λ s w. s ≤ w → only (cond (eqb w 1) (eqb s 1) l) 1 ≡ s + (1 - w + only l 1) / 2)
      (λ p. omega (arith, only-le l 1)) (λ p. omega (arith, only-le l 1)) (λ p. absurd (omega arith)) (λ p. omega (arith, only-le l 1))
      side all k (part k)

  carried : (k : ℕ) → k ≤ bits w → only (last k) 1 ≡ carry (bit_not w all) side k
  unfolding last last_was carry
  carried zero l = refl
  carried (suc k) l =
      carry-on k (last k)
      ∙ ap₂ (λ (x y : ℕ). bit side k + (x + y) / 2) (sym (bit_at_not w all k h (omega arith))) (carried k (omega arith))

  meets : (k : ℕ) (l : Bool) → min (bit side k) ((1 - bit all k + only l 1) % 2) ≡ only (has side k && l) 1
  meets k l =
      at_bits (λ s w. s ≤ w → min s ((1 - w + only l 1) % 2) ≡ only (eqb s 1 && l) 1)
      (λ p. omega arith) (λ p. omega arith) (λ p. absurd (omega arith)) (λ p. omega (arith, only-le l 1))
      side all k (part k)

  pub carry-breaks : (k : ℕ) → k < bits w → bit (bit_and side ((bit_not w all + side * 2) % 2 ^ bits w)) k ≡ only (is_break side all k) 1
  unfolding last
  carry-breaks k l =
      bit_at_and side ((bit_not w all + side * 2) % 2 ^ bits w) k
      ∙ ap (min (bit side k))
      (mod-bit (bits w) k (bit_not w all + side * 2) l ∙ sum-bit (bit_not w all) side k
      ∙ ap₂ (λ (x y : ℕ). (x + y) % 2) (bit_at_not w all k h l) (sym (carried k (omega arith))))
      ∙ meets k (last k)

-- a mask is within its union with another
pub within-left : (m n : ℕ) → Within m (bit_or m n)
within-left m n k = omega (arith, bit_at_or m n k)

-- breaks of masks that are the tests of slots in question
pub break-is : (side all k : ℕ) {game on_side : ℕ → Bool}
    → ((a : ℕ) → a < suc k → has all a ≡ game a)
    → ((a : ℕ) → a < suc k → has side a ≡ on_side a)
    → is_break side all k ≡ on_side k && last_was game on_side k
break-is side all k g s = ap₂ ◌&&◌ (s k (omega arith)) (last_was-ext k (λ a l. g a (omega arith)) (λ a l. s a (omega arith)))
