-- The books after the first k constraints of a walk that reworks the touched ones and keeps the others; opening is the walk in which
-- all are touched. Assumes a ledger and a tally of the season's lengths.
use mathlib.Core.Path.{◌≡◌, ◌∙◌}
use mathlib.Core.List.{List, ◌++◌}
use mathlib.Core.Bool.{Bool, true, false}
use Prim.Native.Nat.{ℕ, ◌+◌, ◌-◌, ◌<◌, ◌≤◌}
use native.Mathlib.Omega.{arith}
use lib.ListN.{length, get_or, set, take, drop}
use Rattle.robinx.specs.Sums.{sum_to}
use Rattle.robinx.specs.Season.{Instance}
use Rattle.robinx.specs.Timetable.{X}
use Rattle.robinx.specs.Books.{deviations_at, penalty_at, entries_at, start_at, all_entries, is_hard}
use Rattle.robinx.specs.Calls.{stretch_at, reworked_stretch, reworked_penalty, gained, lost}
use Rattle.totals.specs.declared.Totals.{Totals}
use Rattle.robinx.proofs.Lengths.{length-deviations}
use Rattle.totals.specs.RunningTotals.{TotalsOf, Adds}
use Rattle.walk.specs.Reworked.{SameBooks, instance_of, Reworked}
use Rattle.walk.specs.declared.Moved.{Moved}
use Rattle.walk.specs.declared.books.Books.{Books}
use Rattle.totals.proofs.RunningTotals.{gathered, holds_more, holds_same, gathered-more, gathered-same}
use Rattle.walk.proofs.Laid.{Laid, laid_none, laid-fits, laid_more, laid_kept, laid_done, Listed, listed-old, listed_more, listed_kept}

module _ (m : Instance) (t : ℕ → Bool) (x : X) (ledger₀ tally₀ : List ℕ) where
  pub record Walked (k at : ℕ) (ledger tally : List ℕ) (got gone : Totals) : Type 0 where
    pub laid : Laid (entries_at m) (reworked_stretch m t x ledger₀) ledger₀ k at ledger
    pub listed : Listed (reworked_penalty m t x tally₀) tally₀ k tally
    pub got-holds : TotalsOf (gathered m t (penalty_at m x) k) got
    pub gone-holds : TotalsOf (gathered m t (λ c. get_or tally₀ c 0) k) gone

  pub walked_none : (z : Totals) → z.hard ≡ 0 → z.soft ≡ 0 → Walked 0 0 ledger₀ tally₀ z z
  unfolding sum_to
  walked_none z h s = record {
    laid = laid_none _ _ ledger₀;
    listed = laid_none _ _ tally₀;
    got-holds = record { hard = h; soft = s };
    gone-holds = record { hard = h; soft = s };
  }

module _ {m : Instance} {t : ℕ → Bool} {x : X} {ledger₀ tally₀ : List ℕ} {k at : ℕ} {ledger tally : List ℕ} {got gone : Totals}
    (w : Walked m t x ledger₀ tally₀ k at ledger tally got gone)
    (ledger-long : length ledger₀ ≡ all_entries m) (tally-long : length tally₀ ≡ m.C + 2) where
  pub walked-fits : k < m.C → at + entries_at m k ≤ length ledger
  unfolding start_at
  walked-fits more = laid-fits (entries_at m) (reworked_stretch m t x ledger₀) ledger₀ k m.C at ledger w.laid more (omega (arith, ledger-long))

  module _ (more : k < m.C) {e : ℕ} (he : e ≡ at + entries_at m k) where
    inside : e ≤ length ledger₀
    inside = omega (arith, walked-fits more, w.laid.long)

    -- a touched constraint: its stretch comes back filled
    pub walked-reworked : {ledger' ys : List ℕ} {v : ℕ} {got' gone' : Totals} → t k ≡ true
        → ys ≡ deviations_at m x k → v ≡ penalty_at m x k
        → ledger' ≡ take at ledger ++ (ys ++ drop (e - at) (drop at ledger))
        → Adds got (is_hard (m.constraint k)) v got' → Adds gone (is_hard (m.constraint k)) (get_or tally k 0) gone'
        → Walked m t x ledger₀ tally₀ (k + 1) e ledger' (set tally k v) got' gone'
    walked-reworked {ledger'} {ys} {v} {got'} {gone'} h hy hv hl hg hs = record {
      laid =
          laid_more (entries_at m) (reworked_stretch m t x ledger₀) ledger₀ k at e ledger ledger' ys w.laid he inside
          (rw h hy)
          (rw hy (length-deviations m.n m.P (m.constraint k) x))
          hl;
      listed = listed_more (reworked_penalty m t x tally₀) tally₀ k v tally w.listed (omega arith) (rw h hv);
      got-holds = holds_more (m.constraint k) v w.got-holds hg (rw hv (gathered-more m t (penalty_at m x) k h));
      gone-holds =
          holds_more (m.constraint k) (get_or tally k 0) w.gone-holds hs
          (rw (listed-old (reworked_penalty m t x tally₀) tally₀ k tally w.listed) (gathered-more m t (λ c. get_or tally₀ c 0) k h));
    }

    -- another: nothing is written
    pub walked-kept : t k ≡ false → Walked m t x ledger₀ tally₀ (k + 1) e ledger tally got gone
    unfolding stretch_at start_at
    walked-kept h = record {
      laid =
          laid_kept (entries_at m) (reworked_stretch m t x ledger₀) ledger₀ k at e ledger w.laid he inside
          (rw (h, w.laid.place));
      listed = listed_kept (reworked_penalty m t x tally₀) tally₀ k tally w.listed (omega arith) (rw h);
      got-holds = holds_same w.got-holds (gathered-same m t (penalty_at m x) k h);
      gone-holds = holds_same w.gone-holds (gathered-same m t (λ c. get_or tally₀ c 0) k h);
    }

-- all turns done
pub walked-done : {old new : Books} {t : ℕ → Bool} {x : X} {k at : ℕ} {r : Moved}
    → Walked (instance_of old) t x old.ledger.now old.tally.now k at new.ledger.now new.tally.now r.gained r.lost
    → k ≡ (instance_of old).C → Reworked old t x new r
unfolding start_at gained lost stretch_at
walked-done {old} {new} {t} {x} {k} {at} w e =
    let m = instance_of old in
    record {
      ledger-is =
          rw (← e)
          (laid_done (entries_at m) (reworked_stretch m t x old.ledger.now) old.ledger.now k at new.ledger.now w.laid (rw e old.ledger_length));
      tally-is = rw (← e) w.listed.list;
      got = rw (← e) w.got-holds;
      gone = rw (← e) w.gone-holds;
    }

-- two steps keep the books the same
pub same_twice : {a b c : Books} → SameBooks a b → SameBooks b c → SameBooks a c
same_twice h k = record { season = k.season ∙ h.season; ledger = k.ledger ∙ h.ledger; tally = k.tally ∙ h.tally }
