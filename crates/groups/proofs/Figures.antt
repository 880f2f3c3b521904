-- What holds before each turn of the walks that work out figures, whatever the figures are, where the members in w are left: what is done and
-- what is left make the whole. Assumes nothing.
use mathlib.Core.Path.{◌≡◌, refl, sym, ap, ◌∙◌}
use mathlib.Core.List.{List, [], ◌∷◌, ◌++◌, append_assoc, append-nil}
use mathlib.Core.Bool.{true}
use Prim.Native.Nat.{ℕ, ◌+◌, ◌-◌, ◌*◌, ◌^◌, ◌<◌, ◌≤◌}
use native.Mathlib.Omega.{arith}
use native.Mathlib.Nat.{le_of_eq, zero-add}
use native.Mathlib.Numerals.{add-one}
use lib.ListN.{length, set, length-set, take}
use lib.Seq.{take-suc-set, take_all}
use lib.Count.{ones}
use Rattle.robinx.specs.Season.{most_teams, most_slots}
use Rattle.robinx.specs.Groups.{has, size, pairs}
use Rattle.robinx.specs.Deviations.{over, each, each_pair}
use Rattle.robinx.proofs.GroupSizes.{size-ones, size-le}
use Rattle.bits.specs.SetBits.{Lowest}
use Rattle.bits.proofs.Lowest.{Part, whole, part-left, taken-has, taken-below, still, higher}
use Rattle.bits.proofs.Figures.{over-none, over-lowest, each-none, each-lowest, size-none, size-lowest}
use Rattle.bits.proofs.Figures.{each_pair-none, each_pair-lowest, pairs-none, pairs-lowest}
use Rattle.groups.specs.Pairs.{pairs_in}
use Rattle.groups.specs.Figures.{OfMembers, Gives, GivesPairs, FigureOfEach, EachPairFigure, TotalFigure}
use Rattle.groups.proofs.Pairs.{pairs-in}

-- the stretch has its first e places filled, and then v
pushed : {e : ℕ} (v : ℕ) (out rest : List ℕ) {all : List ℕ} → e < length out → take e out ++ (v ∷ rest) ≡ all
    → take (e + 1) (set out e v) ++ rest ≡ all
pushed {e} v out rest l whole =
    ap (λ (k : ℕ). take k (set out e v) ++ rest) (add-one e) ∙ ap (λ (l : List ℕ). l ++ rest) (take-suc-set out e v l)
    ∙ append_assoc (take e out) (v ∷ []) rest ∙ whole

full : {e : ℕ} {out all : List ℕ} → e ≡ length out → take e out ++ [] ≡ all → out ≡ all
full {e} {out} h whole = sym (take_all e out (le_of_eq (sym h))) ∙ sym (append-nil (take e out)) ∙ whole

-- A figure for each member.
pub record EachIn (T : ℕ) (post : ℕ → ℕ → Type 0) (w e : ℕ) (out : List ℕ) : Type 0 where
  pub part : Part w T
  pub room : e + size most_slots w ≡ length out
  pub values : (n : ℕ) (f : ℕ → ℕ) → n ≤ most_slots → T < 2 ^ n → Gives n T post f → take e out ++ each n w f ≡ each n T f

module _ {T : ℕ} {post : ℕ → ℕ → Type 0} {out : List ℕ} where
  pub each-in : T < 2 ^ most_slots → length out ≡ ones T → EachIn T post T 0 out
  each-in h p = record { part = whole T; room = omega (arith, size-ones most_slots T h, p); values = λ n f ln ht q. refl }

  module _ {w e : ℕ} (a : EachIn T post w e out) where
    module _ {t r : ℕ} (s : Lowest w t r) where
      pub each-room : e < length out
      each-room = omega (arith, a.room, size-lowest s most_slots s.room)

      pub each-next : {v : ℕ} → post t v → EachIn T post r (e + 1) (set out e v)
      each-next {v} p = record {
        part = part-left a.part s;
        room = omega (arith, a.room, size-lowest s most_slots s.room, length-set out e v);
        values = λ n f ln ht q.
            let b = taken-below a.part s n ht in
            pushed v out (each n r f) each-room
            (ap (λ (u : ℕ). take e out ++ (u ∷ each n r f)) (q t b (taken-has a.part s) v p)
            ∙ ap (λ (l : List ℕ). take e out ++ l) (sym (each-lowest s n b f)) ∙ a.values n f ln ht q);
      }

    pub all-in : w ≡ 0 → FigureOfEach most_slots T post out
    all-in z n f ln ht q =
        full (omega (arith, a.room, ap (size most_slots) z, size-none most_slots))
        (ap (λ (l : List ℕ). take e out ++ l) (sym (ap (λ (v : ℕ). each n v f) z ∙ each-none n f)) ∙ a.values n f ln ht q)

-- A figure for each pair of members, where the members in w are left.
pub record RowsIn (T : ℕ) (post : ℕ → ℕ → ℕ → Type 0) (w e : ℕ) (out : List ℕ) : Type 0 where
  pub part : Part w T
  pub room : e + pairs most_teams w ≡ length out
  pub values : (n : ℕ) (f : ℕ → ℕ → ℕ) → n ≤ most_teams → T < 2 ^ n → GivesPairs n T post f
      → take e out ++ each_pair n w f ≡ each_pair n T f

-- .. in the row of i, whose pairs with the members in w are left, and those of the members in r.
pub record RowIn (T : ℕ) (post : ℕ → ℕ → ℕ → Type 0) (r i w e : ℕ) (out : List ℕ) : Type 0 where
  pub rows : Part r T
  pub part : Part w T
  pub member : has T i ≡ true
  pub above : (j : ℕ) → has w j ≡ true → i < j
  pub room : e + size most_teams w + pairs most_teams r ≡ length out
  pub values : (n : ℕ) (f : ℕ → ℕ → ℕ) → n ≤ most_teams → T < 2 ^ n → GivesPairs n T post f
      → take e out ++ (each n w (f i) ++ each_pair n r f) ≡ each_pair n T f

module _ {T : ℕ} {post : ℕ → ℕ → ℕ → Type 0} {out : List ℕ} (h : T < 2 ^ most_teams) where
  pub rows-in : length out ≡ pairs_in T → RowsIn T post T 0 out
  rows-in p = record { part = whole T; room = omega (arith, pairs-in most_teams T h, p); values = λ n f ln ht q. refl }

  module _ {w e : ℕ} (a : RowsIn T post w e out) where
    pub row-in : {i r : ℕ} → Lowest w i r → RowIn T post r i r e out
    row-in {i} {r} s = record {
      rows = part-left a.part s;
      part = part-left a.part s;
      member = taken-has a.part s;
      above = higher s;
      room = omega (arith, a.room, pairs-lowest s most_teams (taken-below a.part s most_teams h));
      values = λ n f ln ht q.
          ap (λ (l : List ℕ). take e out ++ l) (sym (each_pair-lowest s n (taken-below a.part s n ht) f)) ∙ a.values n f ln ht q;
    }

    pub rows-all-in : w ≡ 0 → EachPairFigure T post out
    rows-all-in z n f ln ht q =
        full (omega (arith, a.room, ap (pairs most_teams) z, pairs-none most_teams))
        (ap (λ (l : List ℕ). take e out ++ l) (sym (ap (λ (v : ℕ). each_pair n v f) z ∙ each_pair-none n f)) ∙ a.values n f ln ht q)

  module _ {r i w e : ℕ} (a : RowIn T post r i w e out) where
    module _ {j k : ℕ} (s : Lowest w j k) where
      pub row-room : e < length out
      row-room = omega (arith, a.room, size-lowest s most_teams (taken-below a.part s most_teams h))

      pub row-next : {v : ℕ} → post i j v → RowIn T post r i k (e + 1) (set out e v)
      row-next {v} p = record {
        rows = a.rows;
        part = part-left a.part s;
        member = a.member;
        above = λ m q. a.above m (still s m q);
        room = omega (arith, a.room, size-lowest s most_teams (taken-below a.part s most_teams h), length-set out e v);
        values = λ n f ln ht q.
            let b = taken-below a.part s n ht in
            pushed v out (each n k (f i) ++ each_pair n r f) row-room
            (ap (λ (u : ℕ). take e out ++ (u ∷ (each n k (f i) ++ each_pair n r f)))
            (q i j (a.above j s.found) b a.member (taken-has a.part s) v p)
            ∙ ap (λ (l : List ℕ). take e out ++ (l ++ each_pair n r f)) (sym (each-lowest s n b (f i))) ∙ a.values n f ln ht q);
      }

    pub row-all-in : w ≡ 0 → RowsIn T post r e out
    row-all-in z = record {
      part = a.rows;
      room = omega (arith, a.room, ap (size most_teams) z, size-none most_teams);
      values = λ n f ln ht q.
          ap (λ (l : List ℕ). take e out ++ (l ++ each_pair n r f)) (sym (ap (λ (v : ℕ). each n v (f i)) z ∙ each-none n (f i)))
          ∙ a.values n f ln ht q;
    }

-- The sum of the members' figures, which is small.
pub record SumIn (T : ℕ) (post : ℕ → ℕ → Type 0) (w v : ℕ) : Type 0 where
  pub part : Part w T
  pub small : most_teams * v + (2 ^ 32 - 1) * size most_teams w ≤ most_teams * (2 ^ 32 - 1)
  pub values : (n : ℕ) (f : ℕ → ℕ) → n ≤ most_teams → T < 2 ^ n → Gives n T post f → v + over n w f ≡ over n T f

module _ {T : ℕ} {post : ℕ → ℕ → Type 0} (h : T < 2 ^ most_teams) where
  pub sum-in : SumIn T post T 0
  sum-in = record { part = whole T; small = omega (arith, size-le T most_teams); values = λ n f ln ht q. zero-add (over n T f) }

  module _ {w v : ℕ} (a : SumIn T post w v) where
    pub sum-next : OfMembers most_teams T (λ t. (r : ℕ) → post t r → most_teams * r < 2 ^ 32) → {t r u : ℕ} → Lowest w t r → post t u
        → SumIn T post r (v + u)
    sum-next few {t} {r} {u} s p =
        let b = taken-below a.part s most_teams h in
        record {
          part = part-left a.part s;
          small = omega (arith, a.small, size-lowest s most_teams b, few t b (taken-has a.part s) u p);
          values = λ n f ln ht q.
              let b = taken-below a.part s n ht in
              omega (arith, a.values n f ln ht q, over-lowest s n b f, q t b (taken-has a.part s) u p);
        }

    pub sum-all-in : w ≡ 0 → TotalFigure T post v
    unfolding over
    sum-all-in z n f ln ht q = omega (arith, a.values n f ln ht q, ap (λ (v : ℕ). over n v f) z, over-none n f)
