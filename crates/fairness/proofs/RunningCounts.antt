-- Rows of running counts: what a table of them holds, and that their distances over S are the deviations. Assumes nothing.
use mathlib.Core.Path.{◌≡◌, sym, ap, ◌∙◌}
use mathlib.Core.List.{List, [], ◌∷◌}
use mathlib.Core.Bool.{false}
use Prim.Native.Nat.{ℕ, suc, ◌+◌, ◌-◌, ◌^◌, ◌<◌, ◌≤◌}
use native.Mathlib.Omega.{arith}
use native.Mathlib.Decide.{ℕ_discrete}
use lib.ListN.{length, get_or, set, length-set}
use lib.Seq.{get_or-set_same, get_or-set_other}
use Rattle.robinx.specs.Season.{most_teams, most_slots, slots_of}
use Rattle.robinx.specs.Sums.{sum_to, list_to, dist}
use Rattle.robinx.specs.Groups.{has}
use Rattle.robinx.specs.Timetable.{games_against, games_up_to}
use Rattle.robinx.specs.Deviations.{worst}
use Rattle.robinx.proofs.Sums.{sum-add}
use Rattle.robinx.proofs.Bounds.{games_up_to-le}
use Rattle.robinx.proofs.Ext.{sum-ext, cat-ext}
use Rattle.bits.specs.SetBits.{Lowest}
use Rattle.bits.proofs.Lowest.{Part, part-left, taken-below}
use Rattle.tables.specs.Tables.{x_of}
use Rattle.rows.specs.Rows.{Holds, marked, up_to}
use Rattle.rows.proofs.Rows.{list-holds, farthest-ext, farthest-of, worst-less}
use Rattle.opponents.specs.Figures.{of_check}
use Rattle.opponents.specs.Games.{MaskOf}
use Rattle.opponents.specs.declared.check.Check.{Check}
use Rattle.opponents.proofs.Checkable.{limits}
use Rattle.fairness.specs.RunningCounts.{running, CountedAt, apart}

-- a mask's running counts are those of the games it stands for
pub running-of : (k : Check) (d t m : ℕ) → MaskOf (games_against k.sizes.teams (x_of k.tables.now.meets) d k.constraint.t1 t) m
    → list_to (up_to m) most_slots ≡ list_to (of_check running k d t) most_slots
unfolding games_up_to
running-of k d t m h = cat-ext most_slots (λ k l. ap (λ (v : ℕ). v ∷ []) (sum-ext (suc k) (λ a la. h a (omega arith))))

-- rows that hold f and g are as far apart as f and g
pub held-apart : (e : List ℕ) (kmax : ℕ) (f g : ℕ → ℕ) {a b : List ℕ} → a ≡ list_to f most_slots → b ≡ list_to g most_slots
    → apart e kmax (λ k. get_or a k 0) (λ k. get_or b k 0) ≡ apart e kmax f g
held-apart e kmax f g p q =
    ap (λ (v : ℕ). v - kmax)
    (farthest-ext e most_slots (λ k l. rw p (list-holds f most_slots k l)) (λ k l. rw q (list-holds g most_slots k l)))

-- the largest distance, less kmax, is the largest of what is more than kmax
pub apart-worst : (e : List ℕ) (kmax : ℕ) (f g : ℕ → ℕ) (S P : ℕ) → S < 2 ^ P → P ≤ most_slots → Holds e (marked S) most_slots
    → ((k : ℕ) → k < most_slots → dist (f k) (g k) ≤ 255) → apart e kmax f g ≡ worst P S (λ k. dist (f k) (g k) - kmax)
apart-worst e kmax f g S P h l he small =
    ap (λ (v : ℕ). v - kmax) (farthest-of e f g S P h l he small) ∙ sym (worst-less P S (λ k. dist (f k) (g k)) kmax)

-- The rows of the members of T1 are laid, but for those in w, which are left.
pub record CountedPassed (k : Check) (d w : ℕ) (table : List (List ℕ)) : Type 0 where
  pub part : Part w k.constraint.t1
  pub long : length table ≡ most_teams
  pub rows : (t : ℕ) → has w t ≡ false → CountedAt k d table t

module _ {k : Check} {d : ℕ} {table : List (List ℕ)} where
  module _ {w : ℕ} (a : CountedPassed k d w table) where
    pub counted-room : {t r : ℕ} → Lowest w t r → t < k.sizes.teams
    counted-room s = taken-below a.part s k.sizes.teams (limits k.checkable).t1

    pub counted-turn : {t r : ℕ} {row : List ℕ} → Lowest w t r → row ≡ list_to (of_check running k d t) most_slots
        → CountedPassed k d r (set table t row)
    counted-turn {t} {r} {row} s p = record {
      part = part-left a.part s;
      long = length-set table t row ∙ a.long;
      rows = λ i e. go i e (ℕ_discrete i t);
    }
      where
        go : (i : ℕ) → has r i ≡ false → Dec (i ≡ t) → CountedAt k d (set table t row) i
        go i e (yes q) b = rw q (get_or-set_same table t row [] (omega (arith, counted-room s, k.checkable.teams, a.long)) ∙ p)
        go i e (no n) b = get_or-set_other table t i row [] n ∙ a.rows i (sym (s.others i n) ∙ e) b

-- The constraint's own deviations.
module _ (k : Check) where
  one-game : (t s : ℕ) → t < k.sizes.teams → s < most_slots
      → sum_to (λ j. x_of k.tables.now.meets t j s + x_of k.tables.now.meets j t s) k.sizes.teams ≤ 1
  one-game t s lt ls =
      let at = k.checkable.tied in
      let x = x_of k.tables.now.meets in
      omega (arith, sum-add (λ j. x t j s) (λ j. x j t s) k.sizes.teams, at.home-row t s lt ls, at.away-row t s lt ls, at.once t s lt ls)

  -- a count is no more than the slots, so it is a byte
  few : (d t s : ℕ) → t < k.sizes.teams → s < most_slots → of_check running k d t s ≤ most_slots
  few d t s lt ls =
      omega (
        arith,
        games_up_to-le k.sizes.teams most_slots k.checkable.teams (omega arith) (x_of k.tables.now.meets) one-game d k.constraint.t1 t (suc s) lt ls,
      )

  -- e is the row of marks of S
  pub apart-in-s : {e : List ℕ} → e ≡ list_to (marked (slots_of k.constraint)) most_slots → (d d' i j : ℕ) → i < k.sizes.teams → j < k.sizes.teams
      → apart e k.constraint.kmax (of_check running k d i) (of_check running k d' j)
      ≡ worst k.sizes.slots (slots_of k.constraint) (λ s. dist (of_check running k d i s) (of_check running k d' j s) - k.constraint.kmax)
  apart-in-s {e} p d d' i j li lj =
      let S = slots_of k.constraint in
      apart-worst e k.constraint.kmax _ _ S k.sizes.slots (limits k.checkable).s k.checkable.slots (rw p (list-holds (marked S) most_slots))
      (λ s ls. omega (arith, few d i s li ls, few d' j s lj ls))
