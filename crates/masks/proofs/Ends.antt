-- The slots of a mask outside another one, and where its last one is.
use Rattle.std.proofs.Common.{◌≡◌, ℕ, zero, suc, ◌+◌, ◌-◌, ◌/◌, ◌^◌, ◌<◌, ◌≤◌, Bool, true, false, cond, not, ◌&&◌, eqb, ltb}
use Rattle.std.proofs.Common.{refl, ap, ◌∙◌, ap₂, mod-lt, arith, pow_pos, shr_lt, le-ltb, lt-ltb, leb-true}
use Rattle.std.specs.Int.{Width, bit_not}
use Rattle.std.proofs.lemmas.Nat.Bits.{bit_at_not}
use mir.Val.{bits}
use lib.Bits.{bit_and, and_le_l}
use lib.Pow.{split}
use Rattle.robinx.specs.Groups.{has}
use Rattle.robinx.specs.Timetable.{last_was}
use Rattle.robinx.proofs.Ext.{has-reaches}
use Rattle.robinx.proofs.Bits.{at_bits, and-has, out-bit}

-- a number by its bit K
above : (m K : ℕ) → has m K ≡ true → 2 ^ K ≤ m
above m K h = leb-true (2 ^ K) m (has-reaches m h (omega arith))

below : (m K : ℕ) → m < 2 ^ suc K → has m K ≡ false → m < 2 ^ K
below m K h e =
    let one : suc K ≡ 1 + K = omega arith in
    let q : m / 2 ^ K < 2 ^ 1 = shr_lt 1 K (omega (arith, ap (λ (z : ℕ). 2 ^ z) one)) in
    let z : m / 2 ^ K ≡ 0 = omega (arith, out-bit m K e) in
    omega (arith, rw z at (split m K), mod-lt m (pow_pos K))

module _ (w : Width) (s : ℕ) (h : s < 2 ^ bits w) where
  -- the slots of m that are not in s
  pub rest_has : (m k : ℕ) → k < bits w → has (bit_and m (bit_not w s)) k ≡ has m k && not (has s k)
  rest_has m k l =
      and-has m (bit_not w s) k
      ∙ ap (λ (z : ℕ). has m k && eqb z 1) (bit_at_not w s k h l)
      ∙ at_bits (λ x y. eqb x 1 && eqb (1 - y) 1 ≡ eqb x 1 && not (eqb y 1)) refl refl refl refl m s k

  -- the larger of the two numbers has the last slot
  pub last-larger : (K m : ℕ) → K ≤ bits w → m < 2 ^ K → ltb (bit_and m (bit_not w s)) (bit_and m s) ≡ last_was (has m) (has s) K
  unfolding last_was
  last-larger zero m f l = le-ltb (bit_and m (bit_not w s)) (bit_and m s) (omega (arith, and_le_l m s))
  last-larger (suc K) m f l = go (has m K) (has s K) refl refl (last-larger K m (omega arith))
    where
      go : (a b : Bool) → has m K ≡ a → has s K ≡ b
          → (m < 2 ^ K → ltb (bit_and m (bit_not w s)) (bit_and m s) ≡ last_was (has m) (has s) K)
          → ltb (bit_and m (bit_not w s)) (bit_and m s) ≡ cond a b (last_was (has m) (has s) K)
      go true true e e' ih =
          let out = rest_has m K (omega arith) ∙ ap₂ (λ (x y : Bool). x && not y) e e' in
          lt-ltb (bit_and m (bit_not w s)) (bit_and m s)
          (omega (
            arith,
            above (bit_and m s) K (and-has m s K ∙ ap₂ ◌&&◌ e e'),
            below (bit_and m (bit_not w s)) K (omega (arith, and_le_l m (bit_not w s))) out,
          ))
      go true false e e' ih =
          let out = rest_has m K (omega arith) ∙ ap₂ (λ (x y : Bool). x && not y) e e' in
          le-ltb (bit_and m (bit_not w s)) (bit_and m s)
          (omega (
            arith,
            below (bit_and m s) K (omega (arith, and_le_l m s)) (and-has m s K ∙ ap₂ ◌&&◌ e e'),
            above (bit_and m (bit_not w s)) K out,
          ))
      go false b e e' ih = ih (below m K l e)
