-- One accepted call on fresh books leaves fresh books, though it works out only what it touches.
use mathlib.Core.Path.{◌≡◌, refl, ap, ◌∙◌}
use mathlib.Core.List.{List, [], ◌∷◌}
use mathlib.Core.Bool.{Bool, true, false, cond}
use Prim.Native.Nat.{ℕ, ◌+◌, ◌^◌, ◌<◌}
use native.Mathlib.Omega.{arith}
use lib.IntN.{pos, ◌+ℤ◌}
use lib.ListN.{get_or}
use mir.Syntax.{w64}
use mir.Val.{to_z}
use Rattle.robinx.specs.Sums.{cat_to, list_to}
use Rattle.robinx.specs.Season.{Instance}
use Rattle.robinx.specs.Timetable.{X}
use Rattle.robinx.specs.Penalty.{penalty}
use Rattle.robinx.specs.Books.{timetable, deviations_at, penalty_at, is_hard, is_soft, total, fresh_ledger, fresh_tally, verdict}
use Rattle.robinx.specs.Calls.{Outcome, outcome, fresh_buffers, accepted, Call, moved, touched, stretch_at, reworked_stretch, reworked_penalty, change, moved_total, reworked}
use Rattle.robinx.specs.declared.Constraint.{Constraint}
use Rattle.robinx.proofs.Ext.{cat-ext}
use Rattle.robinx.proofs.Lengths.{stretch-fresh, list_at, list-beyond}
use Rattle.robinx.proofs.Change.{Good, call_kept}
use Rattle.robinx.proofs.Moved.{total-moved, change-adds}

-- what a tally holds: penalties, infeasibility, objective
pub penalty-held : (m : Instance) (sheet : List ℕ) (c : ℕ) → c < m.C → get_or (fresh_tally m sheet) c 0 ≡ penalty_at m (timetable m sheet) c
unfolding fresh_tally
penalty-held m sheet c l = list_at _ m.C c _ l

pub hard-held : (m : Instance) (sheet : List ℕ) → get_or (fresh_tally m sheet) m.C 0 ≡ total is_hard m (timetable m sheet)
unfolding fresh_tally
hard-held m sheet =
    ap (λ (v : ℕ). get_or (fresh_tally m sheet) v 0) (omega arith) ∙ list-beyond (penalty_at m (timetable m sheet)) m.C 0 _

pub soft-held : (m : Instance) (sheet : List ℕ) → get_or (fresh_tally m sheet) (m.C + 1) 0 ≡ total is_soft m (timetable m sheet)
unfolding fresh_tally
soft-held m sheet = list-beyond (penalty_at m (timetable m sheet)) m.C 1 _

-- the outcome of a call on fresh books, worked out afresh but for its changes
abbrev pub fresh_after : Instance → List ℕ → Call → Outcome
fresh_after m sheet k =
    let after = moved sheet k in
    let y = timetable m after in
    outcome
    (accepted
    (verdict m after (total is_hard m y))
    (to_z w64 (change is_hard m (touched m sheet k) y (fresh_tally m sheet)))
    (to_z w64 (change is_soft m (touched m sheet k) y (fresh_tally m sheet))))
    (fresh_buffers m after)

module _ (m : Instance) (sheet : List ℕ) (k : Call) (good : Good sheet k) where
  abbrev after : List ℕ
  after = moved sheet k

  abbrev x : X
  x = timetable m sheet

  abbrev y : X
  y = timetable m after

  abbrev t : ℕ → Bool
  t = touched m sheet k

  same : (c : ℕ) → t c ≡ false → deviations_at m x c ≡ deviations_at m y c
  same c e = call_kept m sheet k c good e

  -- an untouched constraint's stretch and penalty are those of the sheet after the call
  stretch : (c : ℕ) → c < m.C → (b : Bool) → t c ≡ b → cond b (deviations_at m y c) (stretch_at m (fresh_ledger m sheet) c) ≡ deviations_at m y c
  stretch c l true e = refl
  stretch c l false e = stretch-fresh m sheet c l ∙ same c e

  pub ledger-fresh : cat_to (reworked_stretch m t y (fresh_ledger m sheet)) m.C ≡ fresh_ledger m after
  unfolding fresh_ledger
  ledger-fresh = cat-ext m.C (λ c l. stretch c l (t c) refl)

  payment : (c : ℕ) → c < m.C → (b : Bool) → t c ≡ b → cond b (penalty_at m y c) (get_or (fresh_tally m sheet) c 0) ≡ penalty_at m y c
  payment c l true e = refl
  payment c l false e = penalty-held m sheet c l ∙ ap (penalty (m.constraint c)) (same c e)

  pub penalties-fresh : list_to (reworked_penalty m t y (fresh_tally m sheet)) m.C ≡ list_to (penalty_at m y) m.C
  penalties-fresh = cat-ext m.C (λ c l. ap (λ (v : ℕ). v ∷ []) (payment c l (t c) refl))

  module _ (before : (want : Constraint → Bool) → total want m x < 2 ^ 60) (later : (want : Constraint → Bool) → total want m y < 2 ^ 60) where
    total-fresh : (want : Constraint → Bool) (at : ℕ) → get_or (fresh_tally m sheet) at 0 ≡ total want m x
        → moved_total (get_or (fresh_tally m sheet) at 0) (change want m t y (fresh_tally m sheet)) ≡ total want m y
    total-fresh want at e = rw e (total-moved m t x y same (fresh_tally m sheet) (penalty-held m sheet) want (before want) (later want))

    pub books-fresh : reworked m (fresh_buffers m sheet) k ≡ fresh_after m sheet k
    unfolding reworked fresh_tally
    books-fresh =
        rw (ledger-fresh, penalties-fresh, total-fresh is_hard m.C (hard-held m sheet), total-fresh is_soft (m.C + 1) (soft-held m sheet))

    -- the change takes the fresh total before the call to the one after it
    pub total-adds : (want : Constraint → Bool) → pos (total want m x) +ℤ to_z w64 (change want m t y (fresh_tally m sheet)) ≡ pos (total want m y)
    total-adds want = change-adds m t x y same (fresh_tally m sheet) (penalty-held m sheet) want (before want) (later want)
