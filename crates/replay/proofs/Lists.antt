-- A list of calls with one call more, and the calls of a list of words.
use mathlib.Core.Path.{◌≡◌, refl, sym, ap, ◌∙◌}
use mathlib.Core.List.{List, [], ◌∷◌, ◌++◌, map}
use Prim.Native.Nat.{ℕ, suc, ◌/◌, ◌≤◌}
use native.Mathlib.Omega.{arith}
use lib.IntN.{ℤ, ◌+ℤ◌, +ℤ_assoc}
use lib.ListN.{length, take}
use Rattle.std.proofs.Common.{take_all}
use Rattle.std.specs.Simd.{first_chunks}
use Rattle.robinx.specs.Calls.{Outcome, Call, call_on}
use Rattle.robinx.specs.declared.Reply.{Reply}
use Rattle.replay.specs.Play.{last, added, call_of, call_in, calls_of}

module _ (season : List ℕ) where
  -- the last call comes after what the calls before it left
  pub last_more : (o : Outcome) (ks : List Call) (k : Call) → last season o (ks ++ k ∷ []) ≡ call_on season (last season o ks).left k
  unfolding last
  last_more o [] k = refl
  last_more o (j ∷ ks) k = last_more (call_on season o.left j) ks k

  -- its change is added to theirs
  pub added_more : (d : Reply → ℤ) (o : Outcome) (ks : List Call) (k : Call)
      → added d season o (ks ++ k ∷ []) ≡ added d season o ks +ℤ d (last season o (ks ++ k ∷ [])).reply
  unfolding last added
  added_more d o [] k = refl
  added_more d o (j ∷ ks) k =
      ap (λ (z : ℤ). d o.reply +ℤ z) (added_more d (call_on season o.left j) ks k) ∙ sym (+ℤ_assoc (d o.reply) _ _)

-- a list of words, three by three
pub calls-in-threes : (words : List ℕ) → map call_in (first_chunks 3 (length words / 3) words) ≡ calls_of words
unfolding calls_of
calls-in-threes [] = refl
calls-in-threes (a ∷ []) = refl
calls-in-threes (a ∷ b ∷ []) = refl
calls-in-threes (a ∷ b ∷ c ∷ words) =
    let e : length (a ∷ b ∷ c ∷ words) / 3 ≡ suc (length words / 3) = omega arith in
    rw e (ap (λ (ks : List Call). call_of a b c ∷ ks) (calls-in-threes words))

-- .. all of which are made
pub all-called : (words : List ℕ) {threes : List (List ℕ)} (i : ℕ) → threes ≡ first_chunks 3 (length words / 3) words → length threes ≤ i
    → map call_in (take i threes) ≡ calls_of words
all-called words {threes} i e h = ap (map call_in) (take_all i threes h ∙ e) ∙ calls-in-threes words
