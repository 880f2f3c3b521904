-- Rows laid for masks, and that what is read off them are the definitions. Assumes nothing.
use mathlib.Core.Path.{◌≡◌, refl, sym, subst, ap, ap₂, ◌∙◌}
use mathlib.Core.Bool.{Bool, true, false}
use mathlib.Core.List.{List, [], ◌∷◌, ◌++◌, append_assoc, append-nil}
use Prim.Native.Nat.{ℕ, zero, suc, ◌+◌, ◌-◌, ◌*◌, ◌^◌, ◌<◌, ◌≤◌, min, max}
use native.Mathlib.Omega.{arith}
use native.Mathlib.Decide.{ℕ_discrete}
use native.Mathlib.Nat.{add-zero, zero-add, add-suc}
use lib.Dec.{eqb}
use lib.ListN.{get_or, set, length, length-append, length-set}
use lib.Seq.{ext_get_or, get_or-set_same, get_or-set_other}
use denote.Param.Members.{Mut, Called}
use Rattle.std.specs.Array.{IsFromFnResultFrom, IsFromFnResult}
use Rattle.std.specs.List.{fold, zip}
use Rattle.std.proofs.lemmas.Slice.Zip.{length-zip, get_or-zip}
use Rattle.robinx.specs.Season.{most_slots}
use Rattle.robinx.specs.Sums.{sum_to, max_to, cat_to, list_to, only, dist}
use Rattle.robinx.specs.Groups.{bit, has}
use Rattle.robinx.specs.Deviations.{worst, outside, in_run}
use Rattle.robinx.proofs.Sums.{sum-split}
use Rattle.robinx.proofs.Ext.{sum-ext, max-ext}
use Rattle.robinx.proofs.Lengths.{list_at}
use Rattle.rows.specs.Rows.{Holds, marked, row_at, HoldsAt, laid_at, up_to, farthest_to, runs_to, off_in_runs}
use Rattle.robinx.proofs.Bits.{at_bits}
use Rattle.masks.proofs.Width.{worst-stop}

-- what a row that is written out holds
pub list-holds : (f : ℕ → ℕ) (n : ℕ) → Holds (list_to f n) f n
list-holds f n k l = ap (λ (r : List ℕ). get_or r k 0) (sym (append-nil (list_to f n))) ∙ list_at f n k [] l

length-list : (f : ℕ → ℕ) (n : ℕ) → length (list_to f n) ≡ n
unfolding cat_to
length-list f zero = refl
length-list f (suc n) = omega (arith, length-append (list_to f n) (f n ∷ []), length-list f n)

-- what a stretch of an array of any length holds where it was written
module _ (rows : List ℕ) (a : ℕ) (f : ℕ → ℕ) where
  laid_at-length : (k : ℕ) → length (laid_at rows a f k) ≡ length rows
  unfolding laid_at
  laid_at-length zero = refl
  laid_at-length (suc k) = simp length-set (laid_at-length k)

  pub laid_at-holds : (n : ℕ) → a + n ≤ length rows → HoldsAt (laid_at rows a f n) a f n
  unfolding laid_at
  laid_at-holds zero l k lk = absurd (omega arith)
  laid_at-holds (suc n) l k lk = go (ℕ_discrete k n) (laid_at-holds n (omega arith) k)
    where
      go : Dec (k ≡ n) → (k < n → row_at (laid_at rows a f n) a k ≡ f k) → row_at (set (laid_at rows a f n) (a + n) (f n)) a k ≡ f k
      go (yes e) ih = rw e (get_or-set_same (laid_at rows a f n) (a + n) (f n) 0 (omega (arith, laid_at-length n)))
      go (no e) ih = get_or-set_other (laid_at rows a f n) (a + n) (a + k) (f n) 0 (λ p. e (omega arith)) ∙ ih (omega (arith, e))

-- what `from_fn` makes of a closure that stays as it is and gives h of each number
module _ {F : Type 0} (g : Mut F (ℕ × Unit {0}) ℕ) (f : F) (h : ℕ → ℕ)
    (gives : (i y : ℕ) (q : F) → Called g f (i, tt) y q → (q ≡ f) × (y ≡ h i)) where
  made-from : (row : List ℕ) (i n : ℕ) → IsFromFnResultFrom g f row i n → (k : ℕ) → k < n → get_or row (i + k) 0 ≡ h (i + k)
  made-from row i zero w k l = absurd (omega arith)
  made-from row i (suc n) (q, y, at, called, w) zero l = rw add-zero (at.1 0 ∙ (gives i y q called).1)
  made-from row i (suc n) (q, y, at, called, w) (suc k) l =
      let next = subst (λ (p : F). IsFromFnResultFrom g p row (i + 1) n) (gives i y q called).0 w in
      let e : i + suc k ≡ i + 1 + k = omega arith in
      rw e (made-from row (i + 1) n next k (omega arith))

  pub made : (row : List ℕ) (n : ℕ) → IsFromFnResult g f row n → row ≡ list_to h n
  made row n w =
      ext_get_or 0 row (list_to h n) (w.long ∙ sym (length-list h n)) (λ k l.
      let ln : k < n = omega (arith, w.long) in
      rw zero-add at (made-from row 0 n w.each k ln) ∙ sym (list-holds h n k ln))

-- it goes on from place k with another that is written out
pub list-join : (f g : ℕ → ℕ) (k n : ℕ) → ((j : ℕ) → j < n → g j ≡ f (k + j)) → list_to f k ++ list_to g n ≡ list_to f (k + n)
unfolding cat_to
list-join f g k zero h = rw add-zero (append-nil (list_to f k))
list-join f g k (suc n) h =
    rw (add-suc k n, ← h n (omega arith), ← list-join f g k n (λ j l. h j (omega arith))) (sym (append_assoc (list_to f k) (list_to g n) _))

-- the increases of a row of counts are the counts of the runs
pub runs_of : (row : List ℕ) (v w low high n : ℕ) → n ≤ most_slots + 1 - w → Holds row (sum_to (bit v)) (most_slots + 1)
    → runs_to row w low high n ≡ off_in_runs (bit v) w low high n
unfolding runs_to in_run
runs_of row v w low high n l h =
    sum-ext n (λ k lk.
    ap (outside low high)
    (ap₂ ◌-◌ (h (k + w) (omega arith)) (h k (omega arith)) ∙ omega (arith, sum-split (bit v) k w)))

-- a 0 and then a row of counts: the counts before each place
pub counts-before : (v : ℕ) {row rest : List ℕ} → row ≡ 0 ∷ rest → Holds rest (up_to v) most_slots → Holds row (sum_to (bit v)) (most_slots + 1)
unfolding sum_to
counts-before v e h zero l = rw e refl
counts-before v e h (suc k) l = rw e (h k (omega arith))

-- a fold over a list, by steps of a definition that grows at its end
fold-to : {X : Type 0} (F : ℕ → ℕ) (step : ℕ → X → ℕ) (d : X) (xs : List X) (i n : ℕ) → i + length xs ≡ n
    → ((k : ℕ) → k < length xs → step (F (i + k)) (get_or xs k d) ≡ F (suc (i + k))) → fold step (F i) xs ≡ F n
fold-to F step d [] i n e s = ap F (omega arith)
fold-to F step d (x ∷ xs) i n e s =
    let first : step (F i) x ≡ F (suc i) = rw add-zero at (s 0 (omega arith)) in
    ap (λ (v : ℕ). fold step v xs) first
    ∙ fold-to F step d xs (suc i) n (omega arith) (λ k l. let e : i + suc k ≡ suc i + k = omega arith in rw e at (s (suc k) (omega arith)))

-- the largest distance, of three rows that are gone through together
pub farthest-fold : (e a b : List ℕ) → length e ≡ most_slots → length a ≡ most_slots → length b ≡ most_slots
    → fold (λ far p. max far (min p.1 (dist p.0.0 p.0.1))) 0 (zip (zip a b) e) ≡ farthest_to e (λ k. get_or a k 0) (λ k. get_or b k 0) most_slots
unfolding farthest_to max_to
farthest-fold e a b le la lb =
    let m : length (zip a b) ≡ most_slots = omega (arith, length-zip a b) in
    let n : length (zip (zip a b) e) ≡ most_slots = omega (arith, length-zip (zip a b) e) in
    let D : ℕ → ℕ = λ k. min (get_or e k 0) (dist (get_or a k 0) (get_or b k 0)) in
    fold-to (max_to D) (λ far p. max far (min p.1 (dist p.0.0 p.0.1))) ((0, 0), 0) (zip (zip a b) e) 0 most_slots (omega arith)
    (λ k l. rw (zero-add k, get_or-zip (zip a b) e k _ (omega arith) (omega arith), get_or-zip a b k _ (omega arith) (omega arith)) refl)

-- the largest distance of equal counts, and over the slots of a mask
pub farthest-ext : (e : List ℕ) {f f' g g' : ℕ → ℕ} (n : ℕ) → ((k : ℕ) → k < n → f k ≡ f' k) → ((k : ℕ) → k < n → g k ≡ g' k)
    → farthest_to e f g n ≡ farthest_to e f' g' n
unfolding farthest_to
farthest-ext e n hf hg = max-ext n (λ k l. ap (min (get_or e k 0)) (ap₂ dist (hf k l) (hg k l)))

up-to-mark : (S k d : ℕ) → d ≤ 255 → min (marked S k) d ≡ only (has S k) d
up-to-mark S k d h =
    at_bits (λ s t. min (s * 255) d ≡ only (eqb s 1) d) (omega arith) (omega arith) (omega arith) (omega arith) S S k

pub farthest-of : (e : List ℕ) (f g : ℕ → ℕ) (S P : ℕ) → S < 2 ^ P → P ≤ most_slots → Holds e (marked S) most_slots
    → ((k : ℕ) → k < most_slots → dist (f k) (g k) ≤ 255) → farthest_to e f g most_slots ≡ worst P S (λ k. dist (f k) (g k))
unfolding farthest_to worst
farthest-of e f g S P h l he small =
    max-ext most_slots (λ k lk. ap (λ (m : ℕ). min m (dist (f k) (g k))) (he k lk) ∙ up-to-mark S k (dist (f k) (g k)) (small k lk))
    ∙ worst-stop P most_slots l S (λ k. dist (f k) (g k)) h

-- the largest of f less c is the largest f, less c
only-less : (t : Bool) (v c : ℕ) → only t (v - c) ≡ only t v - c
only-less true v c = refl
only-less false v c = omega arith

max-less : (f : ℕ → ℕ) (c n : ℕ) → max_to (λ k. f k - c) n ≡ max_to f n - c
unfolding max_to
max-less f c zero = omega arith
max-less f c (suc n) = omega (arith, max-less f c n)

pub worst-less : (P S : ℕ) (f : ℕ → ℕ) (c : ℕ) → worst P S (λ k. f k - c) ≡ worst P S f - c
unfolding worst
worst-less P S f c = max-ext P (λ k l. only-less (has S k) (f k) c) ∙ max-less (λ k. only (has S k) (f k)) c P
