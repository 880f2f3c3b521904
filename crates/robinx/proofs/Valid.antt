-- On a sheet without a clash no team has two games in a slot. Assumes that each game is between two teams.
use mathlib.Core.Path.{◌≡◌, refl, sym, ◌∙◌}
use mathlib.Core.Logic.{◌≢◌}
use mathlib.Core.List.{List}
use mathlib.Core.Bool.{Bool, true, false, ◌&&◌, ◌||◌, or-true, and-true, and-false, true≢false}
use Prim.Native.Nat.{ℕ, suc, ◌+◌, ◌<◌, ◌≤◌}
use native.Mathlib.Omega.{arith}
use native.Mathlib.Nat.{le_trans, le_of_eq, add-zero, zero-add}
use lib.Dec.{eqb}
use lib.ListN.{length, get_or}
use borrow.Author.Tests.{eqb-true, eq-eqb, ne_eqb}
use Rattle.std.proofs.lemmas.Bool.{and_parts}
use Rattle.robinx.specs.Sums.{sum_to, only}
use Rattle.robinx.specs.Timetable.{is_at, meetings, collide, clash}
use Rattle.robinx.proofs.Ext.{sum-ext}
use Rattle.robinx.proofs.Sums.{any_none, one_at_most, sum-add, sum-zero, sum-le, sum-swap}

eq-once : (a n : ℕ) → sum_to (λ j. only (eqb a j) 1) n ≤ 1
eq-once a n =
    one_at_most (λ j. eqb a j) n (λ g h lg lh p q. let e = eqb-true a g p in let f = eqb-true a h q in omega arith)

-- where one game (h, a) stands in the row and the column of a team: H and A say whether the team is h or a, S whether it is in the slot
row : (h a n : ℕ) (H A S : Bool)
    → (H ≡ true → A ≡ true → ⊥)
    → sum_to (λ j. only (H && eqb a j && S) 1 + only (eqb h j && A && S) 1) n ≤ only ((H || A) && S) 1
row h a n true true S differ = absurd (differ refl refl)
row h a n true false true differ = le_trans (le_of_eq (simp (and-true, and-false, add-zero))) (eq-once a n)
row h a n false true true differ = le_trans (le_of_eq (simp (and-true, zero-add))) (eq-once h n)
row h a n true false false differ = le_of_eq (sum-zero n (λ k l. simp and-false))
row h a n false true false differ = le_of_eq (sum-zero n (λ k l. simp and-false))
row h a n false false S differ = le_of_eq (sum-zero n (λ k l. simp and-false))

-- two games of one team share a team
share : (a b c d t : ℕ)
    → eqb a t || eqb b t ≡ true
    → eqb c t || eqb d t ≡ true
    → eqb a c || eqb a d || eqb b c || eqb b d ≡ true
share a b c d t = go (eqb a t) (eqb c t) refl refl
  where
    same : (u v : ℕ) → eqb u t ≡ true → eqb v t ≡ true → eqb u v ≡ true
    same u v p q = eq-eqb u v (eqb-true u t p ∙ sym (eqb-true v t q))

    go : (x y : Bool) → eqb a t ≡ x → eqb c t ≡ y → x || eqb b t ≡ true → y || eqb d t ≡ true
        → eqb a c || eqb a d || eqb b c || eqb b d ≡ true
    go true true p q _ _ = rw (same a c p q)
    go true false p _ _ q = rw (same a d p q, or-true)
    go false true _ q p _ = rw (same b c p q, or-true)
    go false false _ _ p q = rw (same b d p q, or-true)

pub no-collision : (home away sheet : List ℕ)
    → clash home away sheet ≡ false
    → (g h : ℕ) → g < length home → h < g → collide home away sheet g h ≡ false
unfolding clash
no-collision home away sheet ok g h lg = any_none _ g (any_none _ (length home) ok g lg) h

module _ (home away sheet : List ℕ)
    (differ : (g : ℕ) → g < length home → get_or home g 0 ≢ get_or away g 0)
    (ok : clash home away sheet ≡ false) where
  -- game g is one of team t in slot k
  here : ℕ → ℕ → ℕ → Bool
  here t k g = (eqb (get_or home g 0) t || eqb (get_or away g 0) t) && eqb (get_or sheet g 0) (suc k)

  apart : (t k g h : ℕ) → g < length home → h < g → here t k g ≡ true → here t k h ≡ true → ⊥
  unfolding here collide
  apart t k g h lg lh p q = true≢false (sym hit ∙ no-collision home away sheet ok g h lg lh)
    where
      of : (g : ℕ) → here t k g ≡ true → (eqb (get_or home g 0) t || eqb (get_or away g 0) t ≡ true) × (get_or sheet g 0 ≡ suc k)
      of g p = let b = and_parts _ _ p in (b.0, eqb-true _ _ b.1)

      hit : collide home away sheet g h ≡ true
      hit =
          rw ((of g p).1, (of h q).1, eq-eqb (suc k) (suc k) refl, ne_eqb (suc k) 0 (omega arith))
          (share _ _ _ _ t (of g p).0 (of h q).0)

  pub valid : (n t k : ℕ) → sum_to (λ j. meetings home away sheet t j k + meetings home away sheet j t k) n ≤ 1
  unfolding meetings is_at here
  valid n t k =
      le_trans (le_of_eq (sum-ext n (λ j l. sym (sum-add _ _ (length home)))))
      (le_trans (le_of_eq (sum-swap _ n (length home)))
      (le_trans (sum-le (length home) (λ g l. row (get_or home g 0) (get_or away g 0) n _ _ (eqb (get_or sheet g 0) (suc k))
      (λ p q. differ g l (eqb-true _ t p ∙ sym (eqb-true _ t q)))))
      (one_at_most (here t k) (length home) (apart t k))))
