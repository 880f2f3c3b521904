-- Demand 1: a call is refused with the first true sentence that it reads, and accepted if there is none; a refusal changes nothing.
use mathlib.Core.Path.{◌≡◌, refl, sym, ◌∙◌}
use mathlib.Core.List.{List, [], ◌∷◌, ◌++◌}
use mathlib.Core.Bool.{true, false, true≢false}
use Prim.Native.Nat.{ℕ, zero, suc, ◌<◌, ◌≤◌}
use native.Mathlib.Omega.{arith}
use native.Mathlib.Decide.{dec_lt}
use borrow.Author.Tests.{eq-eqb, ne_eqb}
use Rattle.robinx.specs.Season.{decode}
use Rattle.robinx.specs.Refusals.{Sentence, sentence, first_true}
use Rattle.robinx.specs.Calls.{Buffers, Outcome, Call, unless_refused, of_buffers, of_call, open_fault, opened, open_call, call_fault, reworked, call_on}
use Rattle.robinx.specs.Demands.{numbers, is_true, First, Judged, Demand1}

-- the numbers of the sentences rise, from above low on
abbrev Rising : ℕ → List Sentence → Type 0
Rising low [] = Unit {0}
Rising low (sentence n t ∷ l) = (low < n) × Rising n l

-- no sentence up to low is among them
none_below : (low : ℕ) (l : List Sentence) → Rising low l → (q : ℕ) → q ≤ low → is_true l q ≡ false
unfolding is_true
none_below low [] h q le = refl
none_below low (sentence n true ∷ l) h q le = rw (ne_eqb n q (omega arith)) (none_below n l h.1 q (omega arith))
none_below low (sentence n false ∷ l) h q le = none_below n l h.1 q (omega arith)

-- `first_true` gives the first true one, and 0 exactly where there is none
first : (low : ℕ) (l : List Sentence) → Rising low l → (r : ℕ) → first_true l ≡ suc r → First l (suc r)
unfolding first_true is_true
first low [] h r e = let z : ⊥ = omega arith in absurd z
first low (sentence n true ∷ l) h r e = record {
  itself = rw (eq-eqb n (suc r) e);
  earlier = λ q less. rw (ne_eqb n q (omega arith)) (none_below n l h.1 q (omega arith));
}
first low (sentence n false ∷ l) h r e = let f = first n l h.1 r e in record { itself = f.itself; earlier = f.earlier }

none : (low : ℕ) (l : List Sentence) → Rising low l → first_true l ≡ 0 → (q : ℕ) → is_true l q ≡ false
unfolding first_true is_true
none low [] h e q = refl
none low (sentence n true ∷ l) h e q = let z : ⊥ = omega arith in absurd z
none low (sentence n false ∷ l) h e q = none n l h.1 e q

only-first : (l : List Sentence) (r q : ℕ) → First l r → First l q → r ≡ q
only-first l r q f g = go (dec_lt r q) (dec_lt q r)
  where
    go : Dec (r < q) → Dec (q < r) → r ≡ q
    go (yes a) b = absurd (true≢false (sym f.itself ∙ g.earlier r a))
    go (no a) (yes b) = absurd (true≢false (sym g.itself ∙ f.earlier q b))
    go (no a) (no b) = omega arith

-- a call that is refused with `first_true`, and is done otherwise
examined : (reads : List ℕ) (l : List Sentence) → numbers l ≡ reads → Rising 0 l → (done : Outcome) (b : Buffers)
    → done.reply.declined ≡ false → Judged reads l b (unless_refused (first_true l) done b)
examined reads l lines rising done b d = go (first_true l) refl
  where
    go : (f : ℕ) → first_true l ≡ f → Judged reads l b (unless_refused f done b)
    go zero e = record {
      lines = lines;
      refused = λ r. (
        λ h. absurd (true≢false (sym h.0 ∙ d)),
        λ h. absurd (true≢false (sym h.itself ∙ none 0 l rising e r)),
      );
      accepted = (λ h. none 0 l rising e, λ h. d);
      unchanged = λ h. absurd (true≢false (sym h ∙ d));
    }
    go (suc f) e =
        let at = first 0 l rising f e in
        record {
          lines = lines;
          refused = λ r. (λ h. rw h.1 at at, λ h. (refl, only-first l (suc f) r at h));
          accepted = (λ h. absurd (true≢false h), λ h. absurd (true≢false (sym at.itself ∙ h (suc f))));
          unchanged = λ h. (refl, refl, refl);
        }

pub demand-1 : Demand1
unfolding numbers open_call open_fault opened call_on call_fault reworked
demand-1 season b = (
  examined _ (of_buffers season b) refl (omega arith) (opened (decode season) b.sheet) b refl,
  λ g s. examined _ (of_buffers season b ++ of_call (decode season) b.sheet (Call.set_slot g s)) refl (omega arith) _ b refl,
  λ g h. examined _ (of_buffers season b ++ of_call (decode season) b.sheet (Call.exchange g h)) refl (omega arith) _ b refl,
)
