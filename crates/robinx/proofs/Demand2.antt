-- Demand 2: after an accepted opening and any calls, the books hold the figures of the sheet word by word, and an accepted call's verdict is
-- the sheet's. From demand 3, by which such books are those of a fresh opening, and from what fresh books hold.
use mathlib.Core.Path.{◌≡◌, refl, sym, ap, ◌∙◌}
use mathlib.Core.List.{List, [], ◌∷◌}
use mathlib.Core.Bool.{Bool, true, false, cond, true≢false}
use Prim.Native.Nat.{ℕ, zero, suc}
use native.Mathlib.Omega.{arith}
use lib.Dec.{eqb, ltb}
use lib.ListN.{get_or, drop}
use lib.Seq.{get_or-take, get_or-drop}
use borrow.Author.Tests.{eqb-true, eqb-false, ltb-true, ltb-false}
use Rattle.robinx.specs.Sums.{any_to, sum_to, only}
use Rattle.robinx.specs.Season.{Instance, decode}
use Rattle.robinx.specs.Books.{timetable, penalty_at, entries_at, start_at, is_hard, total, fresh_ledger, fresh_tally, verdict}
use Rattle.robinx.specs.Calls.{Buffers, buffers, Outcome, Call, opened, open_call, stretch_at}
use Rattle.robinx.specs.PlainSheet.{plain_fault, plain_next}
use Rattle.robinx.specs.Demands.{next, last, RightFigures, AllPlaced, Unplaced, AllKept, Broken, RightVerdict, Correct, Demand2, Fresh, Answers, AllRight}
use Rattle.robinx.specs.declared.Reply.{Reply}
use Rattle.robinx.proofs.Sums.{any_none, some-any, some-term, term-le-sum, only_yes}
use Rattle.robinx.proofs.Lengths.{length-deviations, stretch-fresh, length-ledger, length-tally}
use Rattle.robinx.proofs.Kept.{penalty-held, hard-held, soft-held}
use Rattle.robinx.proofs.Passed.{opens-fresh}
use Rattle.robinx.proofs.Demand3.{demand-3}

module _ (m : Instance) (sheet : List ℕ) where
  figures-fresh : RightFigures m (timetable m sheet) (fresh_ledger m sheet) (fresh_tally m sheet)
  unfolding total stretch_at
  figures-fresh = record {
    cells = length-ledger m sheet;
    words = length-tally m sheet;
    count = λ c l. length-deviations m.n m.P (m.constraint c) (timetable m sheet);
    deviation = λ c k l lk.
        sym (get_or-drop (start_at m c) (fresh_ledger m sheet) k 0)
        ∙ sym (get_or-take (entries_at m c) (drop (start_at m c) (fresh_ledger m sheet)) k 0 lk)
        ∙ ap (λ (s : List ℕ). get_or s k 0) (stretch-fresh m sheet c l);
    penalty = penalty-held m sheet;
    infeasibility = hard-held m sheet;
    objective = soft-held m sheet;
  }

  abbrev has_no_slot : ℕ → Bool
  has_no_slot g = eqb (get_or sheet g 0) 0

  abbrev hard : ℕ → ℕ
  hard c = only (is_hard (m.constraint c)) (penalty_at m (timetable m sheet) c)

  all_placed : any_to has_no_slot m.G ≡ false → AllPlaced m sheet
  all_placed e g l = eqb-false (get_or sheet g 0) 0 (any_none has_no_slot m.G e g l)

  some-unplaced : any_to has_no_slot m.G ≡ true → Unplaced m sheet
  some-unplaced e = let s = some-any has_no_slot m.G e in (s.0, s.1, eqb-true _ 0 s.2)

  all-kept : ltb 0 (total is_hard m (timetable m sheet)) ≡ false → AllKept m sheet
  unfolding total
  all-kept e c l h =
      omega (
        arith,
        ltb-false 0 (sum_to hard m.C) e,
        term-le-sum hard c m.C l,
        ap (λ (b : Bool). only b (penalty_at m (timetable m sheet) c)) h,
      )

  some-broken : ltb 0 (total is_hard m (timetable m sheet)) ≡ true → Broken m sheet
  unfolding total
  some-broken e =
      let s = some-term hard m.C (ltb-true 0 _ e) in
      let b = only_yes (is_hard (m.constraint s.0)) _ s.2 in
      (s.0, s.1, b.0, λ z. omega (arith, b.1))

  verdict-right : RightVerdict m sheet (verdict m sheet (total is_hard m (timetable m sheet)))
  unfolding verdict
  verdict-right = go (any_to has_no_slot m.G) refl (ltb 0 (total is_hard m (timetable m sheet))) refl
    where
      go : (u : Bool) → any_to has_no_slot m.G ≡ u → (b : Bool) → ltb 0 (total is_hard m (timetable m sheet)) ≡ b
          → RightVerdict m sheet (cond u 1 (cond b 2 0))
      go true e b d =
          let s = some-unplaced e in
          record {
            feasible = (λ h. absurd (omega arith), λ p. absurd (p.0 s.0 s.1 s.2));
            unplaced = (λ h. s, λ p. refl);
            infeasible = (λ h. absurd (omega arith), λ p. absurd (p.0 s.0 s.1 s.2));
          }
      go false e true d =
          let s = some-broken d in
          record {
            feasible = (λ h. absurd (omega arith), λ p. absurd (s.3 (p.1 s.0 s.1 s.2)));
            unplaced = (λ h. absurd (omega arith), λ p. absurd (all_placed e p.0 p.1 p.2));
            infeasible = (λ h. (all_placed e, s), λ p. refl);
          }
      go false e false d = record {
        feasible = (λ h. (all_placed e, all-kept d), λ p. refl);
        unplaced = (λ h. absurd (omega arith), λ p. absurd (all_placed e p.0 p.1 p.2));
        infeasible = (λ h. absurd (omega arith), λ p. let s = p.1 in absurd (s.3 (all-kept d s.0 s.1 s.2)));
      }

module _ (season : List ℕ) where
  abbrev m : Instance
  m = decode season

  open-verdict : (b : Buffers) → (open_call season b).reply.declined ≡ false → RightVerdict m b.sheet (open_call season b).reply.number
  unfolding opened
  open-verdict b h = rw (opens-fresh season b h) (verdict-right m b.sheet)

  module _ (plain : List ℕ) (o : Outcome) (f : Fresh season plain o) where
    abbrev again : Buffers
    again = buffers plain o.left.ledger o.left.tally

    figures : RightFigures m (timetable m o.left.sheet) o.left.ledger o.left.tally
    unfolding opened
    figures =
        let a = opens-fresh season again f.opens in
        rw (
          f.sheet,
          f.ledger ∙ ap (λ (o : Outcome). o.left.ledger) a,
          f.tally ∙ ap (λ (o : Outcome). o.left.tally) a,
        )
        (figures-fresh m plain)

  -- an accepted call has the verdict of the fresh opening
  answered : (f : ℕ) (r : Reply) (v : ℕ) → Answers f r v → r.declined ≡ false → r.number ≡ v
  answered zero r v a d = a.1
  answered (suc f) r v a d = absurd (true≢false (sym a.0 ∙ d))

  correct : (plain : List ℕ) (o : Outcome) → Fresh season plain o
      → (o.reply.declined ≡ false → RightVerdict m plain o.reply.number)
      → (calls : List Call) → AllRight season plain o calls → Correct m (last season o calls)
  unfolding last
  correct plain o f v [] rs = record { figures = figures plain o f; verdict = λ d. rw f.sheet (v d) }
  correct plain o f v (k ∷ ks) (r, rs) =
      correct (plain_next m plain k) (next season o k) r.fresh
      (λ d. rw (answered (plain_fault m plain k) _ _ r.answer d) (open-verdict _ r.fresh.opens))
      ks rs

pub demand-2 : Demand2
demand-2 season b h = (
  (demand-3 season b h []).0.sheet,
  λ calls. let d = demand-3 season b h calls in correct season b.sheet _ d.0 (λ e. open-verdict season b h) calls d.1,
)
