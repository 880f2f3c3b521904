-- Consequences worth a name: a set to the slot that a game has changes nothing, and exchanging the games (i, j) and (j, i) is a home-away
-- swap.
use mathlib.Core.Path.{◌≡◌, refl, sym, ap, ap₂, ◌∙◌}
use mathlib.Core.List.{List, [], ◌∷◌, ◌++◌, append_assoc}
use mathlib.Core.Logic.{◌≢◌}
use mathlib.Core.Bool.{Bool, false, ◌&&◌, not, cond}
use Prim.Native.Nat.{ℕ, zero, suc, ◌+◌, ◌^◌, ◌<◌, ◌≤◌}
use native.Mathlib.Omega.{arith}
use native.Mathlib.Decide.{ℕ_discrete}
use native.Mathlib.Numerals.{add-one}
use lib.Dec.{eqb}
use lib.IntN.{pos}
use lib.ListN.{length, get_or, set, take, length-set}
use lib.Seq.{set-get_or, take-add, take_all, take-suc, get_or-set_same, get_or-set_other}
use borrow.Author.Tests.{eq-eqb, ne_eqb, lt-leb, le-ltb}
use Rattle.robinx.specs.Sums.{sum_to, cat_to, list_to, only}
use Rattle.robinx.specs.Season.{Instance, decode}
use Rattle.robinx.specs.Timetable.{X, is_at, meetings}
use Rattle.robinx.specs.Touch.{touches}
use Rattle.robinx.specs.Books.{timetable, deviations_at, penalty_at, entries_at, start_at, all_entries, is_hard, is_soft, verdict}
use Rattle.robinx.specs.Refusals.{first_true, sentence9, sentence10, sentence13}
use Rattle.robinx.specs.Calls.{buffers, outcome, accepted, Call, moved, touched, stretch_at, gained, lost, change, moved_total, reworked, call_on, set_call}
use Rattle.robinx.specs.PlainSheet.{plain_fault}
use Rattle.robinx.specs.declared.Constraint.{Constraint}
use Rattle.robinx.proofs.Sums.{sum-zero}
use Rattle.robinx.proofs.Ext.{sum-ext, cat-ext}
use Rattle.robinx.proofs.Passed.{Passed, call_passes}
use Rattle.robinx.proofs.Accepted.{low, no-clash}
use Rattle.robinx.proofs.Demand3.{lengths}

-- A ledger is its stretches end to end, and a tally its C penalties and two totals.
stretches : (m : Instance) (ledger : List ℕ) (k : ℕ) → cat_to (stretch_at m ledger) k ≡ take (start_at m k) ledger
unfolding cat_to start_at sum_to stretch_at
stretches m ledger zero = refl
stretches m ledger (suc k) =
    ap (λ (l : List ℕ). l ++ stretch_at m ledger k) (stretches m ledger k) ∙ sym (take-add (start_at m k) (entries_at m k) ledger)

pub words : (l : List ℕ) (k : ℕ) → k ≤ length l → list_to (λ c. get_or l c 0) k ≡ take k l
unfolding cat_to
words l zero h = refl
words l (suc k) h = ap (λ (p : List ℕ). p ++ get_or l k 0 ∷ []) (words l k (omega arith)) ∙ sym (take-suc l k 0 h)

-- A call that leaves the sheet as it is and touches nothing.
module _ (m : Instance) (sheet ledger tally : List ℕ) (k : Call) (same : moved sheet k ≡ sheet)
    (none : (c : ℕ) → touched m sheet k c ≡ false) (cells : length ledger ≡ all_entries m) (entries : length tally ≡ m.C + 2)
    (hard-fits : get_or tally m.C 0 < 2 ^ 64) (soft-fits : get_or tally (m.C + 1) 0 < 2 ^ 64) where
  ledger-kept : (d : ℕ → List ℕ) → cat_to (λ c. cond (touched m sheet k c) (d c) (stretch_at m ledger c)) m.C ≡ ledger
  ledger-kept d =
      cat-ext m.C (λ c l. ap (λ (t : Bool). cond t (d c) (stretch_at m ledger c)) (none c))
      ∙ stretches m ledger m.C
      ∙ take_all (all_entries m) ledger (omega arith)

  tally-kept : (d : ℕ → ℕ)
      → list_to (λ c. cond (touched m sheet k c) (d c) (get_or tally c 0)) m.C ++ get_or tally m.C 0 ∷ get_or tally (m.C + 1) 0 ∷ [] ≡ tally
  unfolding cat_to
  tally-kept d =
      ap₂ ◌++◌
      (cat-ext m.C (λ c l. ap (λ (t : Bool). cond t (d c) (get_or tally c 0) ∷ []) (none c)))
      (ap (λ (v : ℕ). get_or tally m.C 0 ∷ get_or tally v 0 ∷ []) (add-one m.C))
      ∙ sym (append_assoc (list_to (λ c. get_or tally c 0) m.C) (get_or tally m.C 0 ∷ []) (get_or tally (suc m.C) 0 ∷ []))
      ∙ words tally (suc (suc m.C)) (omega arith)
      ∙ take_all (suc (suc m.C)) tally (omega arith)

  nothing : (want : Constraint → Bool) (v : ℕ → ℕ) → sum_to (λ c. only (touched m sheet k c && want (m.constraint c)) (v c)) m.C ≡ 0
  nothing want v = sum-zero m.C (λ c l. ap (λ (t : Bool). only (t && want (m.constraint c)) (v c)) (none c))

  no_change : (want : Constraint → Bool) (x : X) → change want m (touched m sheet k) x tally ≡ 0
  unfolding change gained lost
  no_change want x = omega (arith, nothing want (penalty_at m x), nothing want (λ c. get_or tally c 0))

  pub unchanged : reworked m (buffers sheet ledger tally) k
      ≡ outcome (accepted (verdict m sheet (get_or tally m.C 0)) (pos 0) (pos 0)) (buffers sheet ledger tally)
  unfolding reworked
  unchanged =
      let hard : moved_total (get_or tally m.C 0) 0 ≡ get_or tally m.C 0 = omega arith in
      let soft : moved_total (get_or tally (m.C + 1) 0) 0 ≡ get_or tally (m.C + 1) 0 = omega arith in
      let x = timetable m (moved sheet k) in
      rw (no_change is_hard x, no_change is_soft x, hard, soft, ledger-kept (deviations_at m x), tally-kept (penalty_at m x), same)

-- A set to the slot that the game has, whatever the books hold.
module _ (season sheet ledger tally : List ℕ) (p : Passed season sheet (length ledger) (length tally)) (g : ℕ) (game : g < (decode season).G)
    (hard-fits : get_or tally (decode season).C 0 < 2 ^ 64) (soft-fits : get_or tally ((decode season).C + 1) 0 < 2 ^ 64) where
  abbrev m : Instance
  m = decode season

  abbrev stay : Call
  stay = Call.set_slot g (get_or sheet g 0)

  long : (length sheet ≡ m.G) × (length ledger ≡ all_entries m) × (length tally ≡ m.C + 2)
  long = lengths m (length sheet) (length ledger) (length tally) p.s7

  accepted-there : plain_fault m sheet stay ≡ 0
  unfolding plain_fault first_true sentence9 sentence10 sentence13 moved
  accepted-there =
      rw (lt-leb m.G g game, le-ltb m.P (get_or sheet g 0) (low m sheet long.0 p.s8 g game), set-get_or sheet g 0, no-clash m sheet long.0 p.s8)

  untouched : (c : ℕ) → touched m sheet stay c ≡ false
  unfolding touched touches
  untouched c = rw (eq-eqb (get_or sheet g 0) (get_or sheet g 0) refl)

  pub set-to-own-slot-changes-nothing : set_call season (buffers sheet ledger tally) g (get_or sheet g 0)
      ≡ outcome (accepted (verdict m sheet (get_or tally m.C 0)) (pos 0) (pos 0)) (buffers sheet ledger tally)
  unfolding call_on moved
  set-to-own-slot-changes-nothing =
      rw (call_passes season (buffers sheet ledger tally) p stay, accepted-there)
      (unchanged m sheet ledger tally stay (set-get_or sheet g 0) untouched long.1 long.2 hard-fits soft-fits)

-- A sum without one of its terms, and two sums that differ by the exchange of two terms.
take_out : (f : ℕ → ℕ) (g n : ℕ) → g < n → sum_to f n ≡ sum_to (λ a. only (not (eqb a g)) (f a)) n + f g
unfolding sum_to
take_out f g zero l = let z : ⊥ = omega arith in absurd z
take_out f g (suc n) l = go (ℕ_discrete g n) (λ h. take_out f g n h)
  where
    go : Dec (g ≡ n) → (g < n → sum_to f n ≡ sum_to (λ a. only (not (eqb a g)) (f a)) n + f g)
        → sum_to f n + f n ≡ sum_to (λ a. only (not (eqb a g)) (f a)) n + only (not (eqb n g)) (f n) + f g
    go (yes e) ih =
        rw (eq-eqb n g (sym e))
        (omega (arith, ap f e, sum-ext {f = f} {g = λ a. only (not (eqb a g)) (f a)} n (λ a h. sym (rw (ne_eqb a g (omega arith))))))
    go (no e) ih = rw (ne_eqb n g (λ q. e (sym q))) (omega (arith, ih (omega arith)))

exchanged-sum : (f f' : ℕ → ℕ) (g h n : ℕ) → g < n → h < n → g ≢ h → f g ≡ f' h → f h ≡ f' g
    → ((a : ℕ) → a ≢ g → a ≢ h → f a ≡ f' a) → sum_to f n ≡ sum_to f' n
exchanged-sum f f' g h n lg lh d eg eh rest =
    omega (arith, both f, both f', sum-ext {f = others f} {g = others f'} n (λ a l. go a (ℕ_discrete a g) (ℕ_discrete a h)))
  where
    others : (ℕ → ℕ) → ℕ → ℕ
    others f a = only (not (eqb a h)) (only (not (eqb a g)) (f a))

    both : (f : ℕ → ℕ) → sum_to f n ≡ sum_to (others f) n + f h + f g
    both f =
        take_out f g n lg
        ∙ ap (λ (v : ℕ). v + f g) (take_out (λ a. only (not (eqb a g)) (f a)) h n lh ∙ rw (ne_eqb h g (λ e. d (sym e))))

    go : (a : ℕ) → Dec (a ≡ g) → Dec (a ≡ h) → others f a ≡ others f' a
    go a (yes e) q = rw (eq-eqb a g e)
    go a (no e) (yes q) = rw (eq-eqb a h q)
    go a (no e) (no q) = ap (λ (v : ℕ). only (not (eqb a h)) (only (not (eqb a g)) v)) (rest a e q)

-- Games g and h are the two fixtures of a pair, at either venue. Exchanging their slots gives the timetable in which each stays in its
-- slot and the two teams swap home and away.
module _ (home away sheet : List ℕ) (g h : ℕ) (lg : g < length home) (lh : h < length home) (differ : g ≢ h)
    (same : length away ≡ length home) (whole : length sheet ≡ length home)
    (there : get_or home h 0 ≡ get_or away g 0) (back : get_or away h 0 ≡ get_or home g 0) where
  -- the teams of one side after the two have swapped venues; the other side's are `other`
  abbrev turned : List ℕ → List ℕ → List ℕ
  turned side other = set (set side g (get_or other g 0)) h (get_or other h 0)

  first : (l : List ℕ) (u v : ℕ) → g < length l → get_or (set (set l g u) h v) g 0 ≡ u
  first l u v q = get_or-set_other (set l g u) h g v 0 differ ∙ get_or-set_same l g u 0 q

  second : (l : List ℕ) (u v : ℕ) → h < length l → get_or (set (set l g u) h v) h 0 ≡ v
  second l u v q = get_or-set_same (set l g u) h v 0 (rw length-set q)

  elsewhere : (l : List ℕ) (u v a : ℕ) → a ≢ g → a ≢ h → get_or (set (set l g u) h v) a 0 ≡ get_or l a 0
  elsewhere l u v a p q = get_or-set_other (set l g u) h a v 0 q ∙ get_or-set_other l g a u 0 p

  pub home-away-swap : (i j k : ℕ) → meetings home away (moved sheet (Call.exchange g h)) i j k ≡ meetings (turned home away) (turned away home) sheet i j k
  unfolding meetings is_at moved
  home-away-swap i j k =
      exchanged-sum (λ a. only (is_at home away after i j k a) 1) (λ a. only (is_at home' away' sheet i j k a) 1) g h (length home) lg lh differ
      (rw (first sheet b s (omega arith), second home _ _ lh, second away _ _ (omega arith), there, back))
      (rw (second sheet b s (omega arith), first home _ _ lg, first away _ _ (omega arith), there, back))
      (λ a p q. rw (elsewhere sheet b s a p q, elsewhere home _ _ a p q, elsewhere away _ _ a p q))
      ∙ ap (sum_to (λ a. only (is_at home' away' sheet i j k a) 1)) (sym (length-set (set home g (get_or away g 0)) h (get_or away h 0) ∙ length-set home g (get_or away g 0)))
    where
      b : ℕ
      b = get_or sheet h 0

      s : ℕ
      s = get_or sheet g 0

      after : List ℕ
      after = set (set sheet g b) h s

      home' : List ℕ
      home' = turned home away

      away' : List ℕ
      away' = turned away home
