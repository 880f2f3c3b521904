-- Words of bytes, and running counts eight slots at a time: the counts of a byte's own slots, with the count before them added to each, are
-- the mask's counts. Assumes nothing.
use mathlib.Core.Path.{◌≡◌, refl, sym, ap, ◌∙◌}
use mathlib.Core.List.{List, []}
use mathlib.Core.Logic.{◌⊎◌, inl, inr}
use Prim.Native.Nat.{ℕ, zero, suc, ◌+◌, ◌*◌, ◌/◌, ◌%◌, ◌^◌, ◌<◌, ◌≤◌}
use native.Mathlib.Omega.{arith}
use native.Mathlib.Nat.{add-suc}
use lib.Dec.{lit<}
use Rattle.std.proofs.Common.{pow-suc}
use lib.ListN.{get_or}
use Rattle.std.specs.Int.{w64, to_le_bytes}
use Rattle.std.proofs.lemmas.List.{get_or_past}
use Rattle.std.proofs.lemmas.Nat.{le_bytes_8}
use Rattle.std.proofs.lemmas.Bool.{cases_lt}
use Rattle.robinx.specs.Season.{most_slots}
use Rattle.robinx.specs.Sums.{sum_to, cat_to, list_to}
use Rattle.robinx.specs.Groups.{bit}
use Rattle.robinx.proofs.Sums.{sum_bound, sum-split}
use Rattle.robinx.proofs.Ext.{sum-ext}
use Rattle.robinx.proofs.Lengths.{list_at}
use Rattle.rows.specs.Rows.{up_to, packed}
use Rattle.robinx.proofs.Bits.{shift-bit, mod-bit}

-- below n, f is a byte
abbrev Bytes : (ℕ → ℕ) → ℕ → Type 0
Bytes f n = (j : ℕ) → j < n → f j < 256

packed_lt : (f : ℕ → ℕ) (n : ℕ) → Bytes f n → packed f n < 256 ^ n
unfolding packed
packed_lt f zero h = lit< tt
packed_lt f (suc n) h =
    omega (arith, pow-suc 256 n, h 0 (omega arith), packed_lt (λ j. f (suc j)) n (λ j l. h (suc j) (omega arith)))

-- the bytes of a word of eight
word-bytes : (f : ℕ → ℕ) → Bytes f 8 → to_le_bytes w64 (packed f 8) ≡ list_to f 8
unfolding packed cat_to
word-bytes f h = le_bytes_8 (list_to f 8) (packed f 8) refl (λ i. at i (cases_lt i 8)) (omega arith)
  where
    at : (i : ℕ) → (i < 8) ⊎ (8 ≤ i) → get_or (list_to f 8) i 0 < 256
    at i (inl l) = let e : get_or (list_to f 8) i 0 ≡ f i = list_at f 8 i [] l in rw e (h i l)
    at i (inr l) = rw (get_or_past (list_to f 8) i 0 l) (lit< tt)

-- q more in each byte
packed_more : (f g : ℕ → ℕ) (q n : ℕ) → ((j : ℕ) → j < n → q + f j ≡ g j) → packed f n + q * packed (λ j. 1) n ≡ packed g n
unfolding packed
packed_more f g q zero h = omega arith
packed_more f g q (suc n) h = omega (arith, h 0 (omega arith), packed_more (λ j. f (suc j)) (λ j. g (suc j)) q n (λ j l. h (suc j) (omega arith)))

-- a count is no more than its slots
pub count-le : (v n : ℕ) → sum_to (bit v) n ≤ n
count-le v n = omega (arith, sum_bound {f = bit v} n 1 (λ k l. omega arith))

-- the word of the counts up to slots k .. k + 7 of v
abbrev pub Counts : ℕ → ℕ → ℕ → Type 0
Counts v k w = w ≡ packed (λ j. up_to v (k + j)) 8

module _ (v k : ℕ) where
  on : {byte q : ℕ} → byte ≡ v / 2 ^ k % 256 → q ≡ sum_to (bit v) k → (j : ℕ) → j < 8 → q + up_to byte j ≡ up_to v (k + j)
  on {byte} eb eq j lj =
      let e : up_to byte j ≡ sum_to (λ d. bit v (k + d)) (suc j) =
      ap (λ (b : ℕ). up_to b j) eb ∙ sum-ext (suc j) (λ d ld. mod-bit 8 d (v / 2 ^ k) (omega arith) ∙ shift-bit v k d) in
      let s : up_to v (k + j) ≡ sum_to (bit v) k + sum_to (λ d. bit v (k + d)) (suc j) =
      ap (sum_to (bit v)) (sym (add-suc k j)) ∙ sum-split (bit v) k (suc j) in
      omega arith

  -- the word of the next byte's own counts, and the count before it in each byte
  pub counted : {byte q r : ℕ} → byte ≡ v / 2 ^ k % 256 → q ≡ sum_to (bit v) k → r ≡ packed (up_to byte) 8
      → Counts v k (r + q * 0x0101010101010101)
  unfolding packed
  counted {byte} {q} eb eq e =
      ap (λ (r : ℕ). r + q * 0x0101010101010101) e ∙ packed_more (up_to byte) (λ j. up_to v (k + j)) q 8 (on eb eq)

  module _ {w : ℕ} (l : k + 8 ≤ most_slots) (e : Counts v k w) where
    small : Bytes (λ j. up_to v (k + j)) 8
    small j lj = omega (arith, count-le v (suc (k + j)))

    pub counts-fit : w < 2 ^ 64
    counts-fit = rw e (packed_lt (λ j. up_to v (k + j)) 8 small)

    pub counts-bytes : to_le_bytes w64 w ≡ list_to (λ j. up_to v (k + j)) 8
    counts-bytes = ap (to_le_bytes w64) e ∙ word-bytes _ small

    pub counts-last : w / 2 ^ 56 ≡ sum_to (bit v) (k + 8)
    unfolding cat_to
    counts-last = omega (arith, counts-fit, ap (λ (b : List ℕ). get_or b 7 0) counts-bytes, ap (sum_to (bit v)) (add-suc k 7))
