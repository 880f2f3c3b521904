-- One slot taken from a mask as a number: the slots that this sets are those from it up to the mask's next one.
use Rattle.std.proofs.Common.{◌≡◌, ℕ, zero, suc, ◌+◌, ◌*◌, ◌/◌, ◌%◌, ◌^◌, ◌<◌, ◌≤◌, Bool, true, false, not, ◌&&◌, ◌||◌, eqb, leb}
use Rattle.std.proofs.Common.{sym, refl, ap, ◌∙◌, div-one, arith, eq-eqb, ne_eqb, le-leb}
use Rattle.std.specs.Int.{Width, bit_not}
use Rattle.std.proofs.lemmas.Nat.Bits.{bit_at-suc}
use mir.Val.{bits}
use mathlib.Core.Bool.{and-true, and-false, or-true, or-false}
use native.Mathlib.Decide.{ℕ_discrete, dec_lt}
use lib.Bits.{bit_and}
use borrow.Author.Tests.{lt-leb}
use Rattle.robinx.specs.Sums.{only, any_to}
use Rattle.robinx.specs.Groups.{bit, has}
use Rattle.robinx.specs.Timetable.{on_trip}
use Rattle.robinx.proofs.Bits.{at_bits, out-bit, and-has, one_bit, mod-bit}
use Rattle.robinx.proofs.Sums.{none_any}
use Rattle.masks.proofs.Carry.{carry, sum-bit}
use Rattle.masks.proofs.Ends.{rest_has}

in_order : (b x s y d : Bool) → (y ≡ false → d ≡ b && not s) → x && d && not y ≡ b && x && not (s || b && y)
in_order true x s true d h = rw (or-true s, and-false (x && d), and-false x) refl
in_order false x s true d h = and-false (x && d)
in_order true x s false d h = rw (h refl, or-false s, and-true (x && not s)) refl
in_order false x s false d h = rw (h refl, and-true (x && false)) (and-false x)

-- d is n less slot a
module _ (w : Width) (n d a : ℕ) (h : n < 2 ^ bits w) (less : (d + 2 ^ a) % 2 ^ bits w ≡ n) where
  -- n has a slot from a on and before k
  some : ℕ → Bool
  some = any_to (λ i. leb a i && has n i)

  -- a slot from a on, and no slot of n from a up to it
  reached : ℕ → Bool
  reached k = leb a k && not (some k)

  reached-up-to-a : (k : ℕ) → k ≤ a → reached k ≡ eqb k a
  unfolding reached some
  reached-up-to-a k l = rw (none_any (λ i. leb a i && has n i) k (λ i h. rw (lt-leb a i (omega arith)))) (go (ℕ_discrete k a))
    where
      go : Dec (k ≡ a) → leb a k && true ≡ eqb k a
      go (yes e) = rw (eq-eqb k a e, le-leb a k (omega arith))
      go (no e) = rw (ne_eqb k a e, lt-leb a k (omega (arith, e)))

  reached-next : (k : ℕ) → only (reached (suc k)) 1 ≡ only (eqb (suc k) a) 1 + only (reached k && not (has n k)) 1
  unfolding reached some any_to
  reached-next k = go (dec_lt k a)
    where
      both : (s : Bool) → only (not (s || has n k)) 1 ≡ 0 + only (not s && not (has n k)) 1
      both true = refl
      both false = omega arith

      go : Dec (k < a) → only (reached (suc k)) 1 ≡ only (eqb (suc k) a) 1 + only (reached k && not (has n k)) 1
      go (yes l) = rw (reached-up-to-a (suc k) l, lt-leb a k l) (omega arith)
      go (no l) = rw (le-leb a k (omega arith), le-leb a (suc k) (omega arith), ne_eqb (suc k) a (λ e. omega arith)) (both (some k))

  -- what is added to slot k of d when slot a is added to d: the slot itself, or a carry
  carry_in : ℕ → ℕ
  carry_in k = carry (d * 2) (2 ^ a) (suc k)

  twice-bit : (k : ℕ) → bit (d * 2) (suc k) ≡ bit d k
  twice-bit k = let e : d * 2 / 2 ≡ d = omega arith in bit_at-suc (d * 2) k ∙ ap (λ (z : ℕ). bit z k) e

  sum-here : (k : ℕ) → k < bits w → bit n k ≡ (bit d k + carry_in k) % 2
  unfolding carry_in
  sum-here k l =
      let e : (d * 2 + 2 ^ a * 2) / 2 ≡ d + 2 ^ a = omega arith in
      ap (λ (z : ℕ). bit z k) (sym less) ∙ mod-bit (bits w) k (d + 2 ^ a) l ∙ ap (λ (z : ℕ). bit z k) (sym e)
      ∙ sym (bit_at-suc (d * 2 + 2 ^ a * 2) k) ∙ sum-bit (d * 2) (2 ^ a) (suc k)
      ∙ ap (λ (z : ℕ). (z + carry_in k) % 2) (twice-bit k)

  -- with a sum of 2 there is a carry, and n has no slot k
  carried_on : (k : ℕ) (r : Bool) → bit n k ≡ (bit d k + only r 1) % 2 → (bit d k + only r 1) / 2 ≡ only (r && not (has n k)) 1
  carried_on k true =
      at_bits (λ x y. x ≡ (y + 1) % 2 → (y + 1) / 2 ≡ only (not (eqb x 1)) 1)
      (λ e. omega arith) (λ e. omega arith) (λ e. omega arith) (λ e. omega arith) n d k
  carried_on k false = λ e. omega arith

  carry_in-where : (k : ℕ) → k ≤ bits w → carry_in k ≡ only (reached k) 1
  unfolding carry_in carry
  carry_in-where zero l = omega (arith, one_bit a 0, div-one (d * 2), ap (λ (b : Bool). only b 1) (reached-up-to-a 0 (omega arith)))
  carry_in-where (suc k) l =
      let ih = carry_in-where k (omega arith) in
      omega (arith, one_bit a (suc k), twice-bit k, ih, carried_on k (reached k) (sum-here k (omega arith) ∙ rw ih refl), reached-next k)

  -- so the slots that d has and n has not are those that are reached
  set-where : (k : ℕ) → k < bits w → has n k ≡ false → has d k ≡ reached k
  set-where k l e = go (reached k) (sym (out-bit n k e) ∙ sum-here k l ∙ rw (carry_in-where k (omega arith)) refl)
    where
      go : (r : Bool) → 0 ≡ (bit d k + only r 1) % 2 → has d k ≡ r
      go true h = eq-eqb (bit d k) 1 (omega arith)
      go false h = ne_eqb (bit d k) 1 (λ p. omega arith)

  pub trip-has : (m k : ℕ) → k < bits w → has (bit_and (bit_and m d) (bit_not w n)) k ≡ on_trip (has m) (has n) a k
  unfolding on_trip any_to some reached
  trip-has m k l =
      rest_has w n h (bit_and m d) k l ∙ ap (λ (b : Bool). b && not (has n k)) (and-has m d k)
      ∙ in_order (leb a k) (has m k) (some k) (has n k) (has d k) (set-where k l)
