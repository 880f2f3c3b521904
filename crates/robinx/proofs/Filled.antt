-- A stretch that is filled from the front: what holds at each turn of the loop that fills it, and the laws that carry it on. Assumes nothing.
use mathlib.Core.Path.{◌≡◌, refl, sym, ap, ◌∙◌}
use mathlib.Core.List.{List, [], ◌∷◌, ◌++◌}
use Prim.Native.Nat.{ℕ, ◌+◌, ◌<◌}
use native.Mathlib.Omega.{arith}
use native.Mathlib.Numerals.{add-one}
use native.Mathlib.Nat.{le_of_eq}
use lib.ListN.{length, length-append, length-set, take, set}
use lib.Seq.{take-suc-set, take_all}

-- Any list: the stretch has N places, and the first e hold the list.
pub record Filled (l : List ℕ) (N e : ℕ) (out : List ℕ) : Type 0 where
  pub front : take e out ≡ l
  pub count : length l ≡ e
  pub long : length out ≡ N

pub filled_none : {N : ℕ} {out : List ℕ} → length out ≡ N → Filled [] N 0 out
filled_none h = record { front = refl; count = refl; long = h }

pub filled_more : {l : List ℕ} {N e : ℕ} {out : List ℕ} (v : ℕ) → Filled l N e out → e < length out
    → Filled (l ++ (v ∷ [])) N (e + 1) (set out e v)
filled_more {l} {N} {e} {out} v i h = record {
  front = ap (λ (k : ℕ). take k (set out e v)) (add-one e) ∙ take-suc-set out e v h ∙ ap (λ (m : List ℕ). m ++ (v ∷ [])) i.front;
  count = length-append l (v ∷ []) ∙ ap (λ (k : ℕ). k + 1) i.count;
  long = simp length-set i.long;
}

pub filled-done : {l : List ℕ} {N e : ℕ} {out : List ℕ} → Filled l N e out → length l ≡ N → out ≡ l
filled-done {l} {N} {e} {out} i h = sym (take_all e out (le_of_eq (i.long ∙ sym h ∙ i.count))) ∙ i.front

-- the only figure of a stretch of one
pub filled-one : (out : List ℕ) (v : ℕ) → length out ≡ 1 → set out 0 v ≡ v ∷ []
filled-one out v h = filled-done (filled_more {out = out} v (filled_none h) (omega arith)) refl
