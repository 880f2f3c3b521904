-- The set bits of a number from the lowest on, and that a number below 2 ^ P has none from P on. Assumes nothing.
use mathlib.Core.Path.{◌≡◌, refl, sym, ap, ◌∙◌}
use mathlib.Core.Bool.{true, false, true≢false}
use Prim.Native.Nat.{ℕ, zero, suc, ◌+◌, ◌-◌, ◌/◌, ◌%◌, ◌^◌, ◌<◌, ◌≤◌}
use native.Mathlib.Omega.{arith}
use native.Mathlib.Decide.{dec_lt}
use native.Mathlib.Nat.{pow-suc, div-one}
use lib.Dec.{eqb}
use lib.Pow.{shr-shr, shr_le}
use lib.Count.{count_trailing_zeros, under}
use Rattle.std.proofs.lemmas.Nat.Bits.{bit_at_above, bit_at-zero, bit_at_lowest, bit_at-suc}
use Rattle.robinx.specs.Groups.{bit, has}
use Rattle.robinx.proofs.Bits.{shift-bit}

pub none-past : (m P : ℕ) → m < 2 ^ P → (k : ℕ) → P ≤ k → has m k ≡ false
none-past m P h k l = ap (λ (b : ℕ). eqb b 1) (bit_at_above m P k h l)

pub in-below : (m P : ℕ) → m < 2 ^ P → (k : ℕ) → has m k ≡ true → k < P
in-below m P h k e = go (dec_lt k P)
  where
    go : Dec (k < P) → k < P
    go (yes l) = l
    go (no l) = absurd (true≢false (sym e ∙ none-past m P h k (omega (arith, l))))

-- the lowest set bit, and zeros below it
abbrev Lowest : ℕ → ℕ → ℕ → Type 0
Lowest K m z = (z < K) × (bit m z ≡ 1) × ((i : ℕ) → i < z → bit m i ≡ 0)

clear-more : (m z : ℕ) → m % 2 ≡ 0 → ((i : ℕ) → i < z → bit (m / 2) i ≡ 0) → (i : ℕ) → i < suc z → bit m i ≡ 0
clear-more m z e h zero l = bit_at_lowest m ∙ e
clear-more m z e h (suc i) l = bit_at-suc m i ∙ h i (omega arith)

lowest : (K m : ℕ) → 0 < m → m < 2 ^ K → Lowest K m (count_trailing_zeros K m)
unfolding count_trailing_zeros
lowest zero m p h = absurd (omega arith)
lowest (suc K) m p h = go (m % 2) refl (λ e. lowest K (m / 2) (omega arith) (omega (arith, pow-suc 2 K)))
  where
    go : (d : ℕ) → m % 2 ≡ d → (m % 2 ≡ 0 → Lowest K (m / 2) (count_trailing_zeros K (m / 2)))
        → Lowest (suc K) m (under d (count_trailing_zeros K (m / 2)))
    go zero e ih = (omega (arith, (ih e).0), bit_at-suc m _ ∙ (ih e).1, clear-more m _ e (ih e).2)
    go (suc d) e ih = (omega arith, bit_at_lowest m ∙ omega arith, λ i l. absurd (omega arith))

-- what a turn of the walk finds from place k on, at any width: z places that are clear, then one that is set; next is what is left of the mask
pub record Turn (K v k z next : ℕ) : Type 0 where
  pub room : k + z < K
  pub set : has v (k + z) ≡ true
  pub clear : (i : ℕ) → k ≤ i → i < k + z → has v i ≡ false
  pub left : next ≡ v / 2 ^ (k + z + 1)

pub turn : (K v k rest : ℕ) → v < 2 ^ K → rest ≡ v / 2 ^ k → (rest ≡ 0 → ⊥)
    → Turn K v k (count_trailing_zeros K rest) (rest / 2 ^ count_trailing_zeros K rest / 2)
turn K v k rest h e n =
    let z = count_trailing_zeros K rest in
    let f = lowest K rest (omega arith) (omega (arith, shr_le v k)) in
    let same : (i : ℕ) → bit v (k + i) ≡ bit rest i = λ i. sym (shift-bit v k i) ∙ ap (λ (r : ℕ). bit r i) (sym e) in
    let one : has v (k + z) ≡ true = ap (λ (b : ℕ). eqb b 1) (same z ∙ f.1) in
    record {
      room = in-below v K h (k + z) one;
      set = one;
      clear = λ i a b.
          let at : i ≡ k + (i - k) = omega arith in ap (λ (b : ℕ). eqb b 1) (ap (bit v) at ∙ same (i - k) ∙ f.2 (i - k) (omega arith));
      left = ap (λ (r : ℕ). r / 2 ^ z / 2) e ∙ ap (λ (r : ℕ). r / 2) (shr-shr v k z) ∙ shr-shr v (k + z) 1;
    }

pub first-turn : (K v : ℕ) → v < 2 ^ K → (v ≡ 0 → ⊥) → Turn K v 0 (count_trailing_zeros K v) (v / 2 ^ count_trailing_zeros K v / 2)
first-turn K v h n = turn K v 0 v h (sym (div-one v)) n

-- the walk ends where nothing is left
pub none_left : (v k : ℕ) → 0 ≡ v / 2 ^ k → (i : ℕ) → k ≤ i → has v i ≡ false
none_left v k e i l =
    let at : i ≡ k + (i - k) = omega arith in
    ap (λ (b : ℕ). eqb b 1) (ap (bit v) at ∙ sym (shift-bit v k (i - k)) ∙ ap (λ (r : ℕ). bit r (i - k)) (sym e) ∙ bit_at-zero (i - k))
