-- What an answer says of the report: a refusal's number, or no fault and the rows.
use mathlib.Core.Path.{◌≡◌, refl, sym, ap, ◌∙◌}
use mathlib.Core.List.{List, [], ◌∷◌, ◌++◌}
use mathlib.Core.Logic.{◌≢◌}
use mathlib.Core.Bool.{Bool, true, false, true≢false}
use Prim.Native.Nat.{ℕ, zero, suc, ◌-◌, ◌^◌}
use native.Mathlib.Omega.{arith}
use lib.Dec.{ltb}
use lib.IntN.{ℤ, pos, negsuc}
use mir.Syntax.{w64}
use mir.Val.{to_z, of_z, sel}
use Rattle.std.specs.Prelude.{Ok, Err}
use Rattle.robinx.specs.Season.{decode}
use Rattle.robinx.specs.Books.{timetable, total, is_hard, is_soft, verdict}
use Rattle.robinx.specs.Calls.{accepted}
use Rattle.robinx.specs.Refusals.{first_true, of_season}
use Rattle.robinx.specs.RefusalNumbers.{number_of}
use Rattle.robinx.specs.Report.{season_of, sheet_of, report_fault, report_rows}
use Rattle.robinx.specs.declared.Refusal.{Refusal}
use Rattle.robinx.specs.declared.Reply.{Reply}
use Rattle.robinx.proofs.Passed.{none_true}
use Rattle.replies.specs.Reply.{reply_of}
use Rattle.replies.specs.Verdict.{verdict_number}
use Rattle.replies.specs.declared.Accepted.{Accepted}
use Rattle.report_reply.specs.ReportReply.{up_to_six, reply_unless, report_reply, TallyOf}
use Rattle.report_reply.proofs.Answered.{after_six}
use Rattle.report.specs.ReportRows.{broken_of}

not-negative : ℤ → Bool
not-negative (pos n) = true
not-negative (negsuc n) = false

-- a change that reads as a number that is not negative is that number
unsigned : (n v : ℕ) → to_z w64 n ≡ pos v → n ≡ v
unfolding not-negative
unsigned n v e = go (ltb n (2 ^ 63)) e
  where
    go : (t : Bool) → sel t (pos n) (negsuc (2 ^ 64 - suc n)) ≡ pos v → n ≡ v
    go true e = ap (of_z w64) e
    go false e = absurd (true≢false (sym (ap not-negative e)))

-- the reply of an input that is not refused
abbrev report_accepted : List ℕ → Reply
report_accepted input =
    let m = decode (season_of input) in
    let x = timetable m (sheet_of input) in
    accepted (verdict m (sheet_of input) (total is_hard m x)) (pos (total is_hard m x)) (pos (total is_soft m x))

module _ (input : List ℕ) where
  pub refusal-reported : (r : Refusal) → reply_of (Err r) ≡ report_reply input → (report_fault input ≢ 0) × (number_of r ≡ report_fault input)
  unfolding report_reply
  refusal-reported r e = go (report_fault input) refl e
    where
      go : (f : ℕ) → report_fault input ≡ f → reply_of (Err r) ≡ reply_unless f (report_accepted input)
          → (report_fault input ≢ 0) × (number_of r ≡ report_fault input)
      go zero ef e = absurd (true≢false (ap (λ (a : Reply). a.declined) e))
      go (suc k) ef e = (λ z. omega (arith, ef, z), ap (λ (a : Reply). a.number) e ∙ sym ef)

  module _ (a : Accepted) (e : reply_of (Ok a) ≡ report_reply input) where
    accepted-told : (report_fault input ≡ 0) × (reply_of (Ok a) ≡ report_accepted input)
    unfolding report_reply
    accepted-told = go (report_fault input) e
      where
        go : (f : ℕ) → reply_of (Ok a) ≡ reply_unless f (report_accepted input) → (f ≡ 0) × (reply_of (Ok a) ≡ report_accepted input)
        go zero e = (refl, e)
        go (suc k) e = absurd (true≢false (sym (ap (λ (a : Reply). a.declined) e)))

    pub accepted-clear : first_true (of_season (season_of input)) ≡ 0
    unfolding report_fault first_true
    accepted-clear =
        let c = none_true (up_to_six (season_of input) ++ after_six input) accepted-told.0 in
        rw (c.0, c.1.0, c.1.1.0, c.1.1.1.0, c.1.1.1.1.0)

    -- the broken constraints were read from a tally of the sheet
    pub rows-reported : {s : List ℕ} → s ≡ season_of input → {k : ℕ} → k ≡ (decode s).C → (tally : List ℕ)
        → (report_fault input ≡ 0 → TallyOf (season_of input) (sheet_of input) tally) → {broken : List (List ℕ)}
        → ((sheet : List ℕ) → TallyOf s sheet tally → broken ≡ broken_of s sheet k)
        → (report_fault input ≡ 0) × ((verdict_number a.verdict ∷ a.change.hard ∷ a.change.soft ∷ []) ∷ broken ≡ report_rows input)
    unfolding report_rows
    rows-reported es ek tally t w =
        let told = accepted-told.1 in
        let b = rw (ek, es) at w in (
          accepted-told.0,
          rw (
            ap (λ (r : Reply). r.number) told,
            unsigned _ _ (ap (λ (r : Reply). r.infeasibility) told),
            unsigned _ _ (ap (λ (r : Reply). r.objective) told),
            b (sheet_of input) (t accepted-told.0),
          ),
        )
