-- The answer and the tally of an opening are the report's, where ledger and tally have the season's sizes.
use mathlib.Core.Path.{◌≡◌, sym, ap, ◌∙◌}
use mathlib.Core.List.{List, ◌++◌}
use Prim.Native.Nat.{ℕ, ◌+◌}
use native.Mathlib.Omega.{arith}
use lib.ListN.{length}
use lib.Seq.{take_at}
use Rattle.std.proofs.Common.{Result, Ok, Err}
use Rattle.robinx.specs.Season.{decode}
use Rattle.robinx.specs.Books.{all_entries, fresh_tally}
use Rattle.robinx.specs.Calls.{buffers, outcome, opened, open_fault, open_call}
use Rattle.robinx.specs.Refusals.{Sentence, first_true, of_sheet}
use Rattle.robinx.specs.RefusalNumbers.{fault_of}
use Rattle.robinx.specs.Report.{season_of, sheet_of, report_fault}
use Rattle.robinx.specs.declared.Refusal.{Refusal}
use Rattle.replies.specs.Reply.{reply_of}
use Rattle.replies.specs.declared.Accepted.{Accepted}
use Rattle.reader.proofs.Read.{constraints-read}
use Rattle.robinx.proofs.Passed.{or_else, first-of-both}
use Rattle.robinx.proofs.Lengths.{length-tally}
use Rattle.season.specs.declared.Examined.{Examined}
use Rattle.season.proofs.Found.{sizes-found}
use Rattle.report_reply.specs.ReportReply.{up_to_six, report_reply, TallyOf}
use Rattle.report_reply.proofs.Sixth.{UpToSix, clear}

abbrev pub ReportAnswers : List ℕ → Result Accepted Refusal → List ℕ → Type 0
ReportAnswers input a tally =
    (reply_of a ≡ report_reply input) × (report_fault input ≡ 0 → TallyOf (season_of input) (sheet_of input) tally)

-- sentences 7 and 8, with ledger and tally of the sizes that the season asks
abbrev pub after_six : List ℕ → List Sentence
after_six input = of_sheet (decode (season_of input)) (sheet_of input) (all_entries (decode (season_of input))) ((decode (season_of input)).C + 2)

-- a season and a sheet that were cut out of the input
module _ (input : List ℕ) {s : List ℕ} (es : s ≡ season_of input) where
  six-then-asked : {r : Result Examined Refusal} → UpToSix s r → report_fault input ≡ or_else (fault_of r) (first_true (after_six input))
  unfolding report_fault
  six-then-asked x =
      first-of-both (up_to_six (season_of input)) (after_six input) tt
      ∙ ap (λ (f : ℕ). or_else f (first_true (after_six input))) (rw (← es) (sym x.fault))

  -- one of the first six sentences gives the number
  pub refused-early : {r : Refusal} → UpToSix s (Err r) → (tally : List ℕ) → ReportAnswers input (Err r) tally
  unfolding report_reply
  refused-early x tally = grind (arith, six-then-asked x)

  -- none of the six is true, so the opening decides
  module _ {e : Examined} (x : UpToSix s (Ok e)) (ledger tally : List ℕ) (el : length ledger ≡ e.entries)
      (et : length tally ≡ e.season.sizes.constraints + 2) where
    same-fault : report_fault input ≡ open_fault (season_of input) (buffers (sheet_of input) ledger tally)
    unfolding report_fault open_fault first_true
    same-fault =
        let c = rw es at (clear x) in
        let entries = rw es at (el ∙ x.found.entries) in
        let words = rw es at (et ∙ ap (λ (k : ℕ). k + 2) (constraints-read s (sizes-found x.found))) in
        rw (c.0, c.1.0, c.1.1.0, c.1.1.1.0, c.1.1.1.1.0, c.1.1.1.1.1.0, entries, words)

    pub opened-answers : {sheet : List ℕ} → sheet ≡ sheet_of input → (rest : List ℕ) (a : Result Accepted Refusal) {ledger' tally' : List ℕ}
        → outcome (reply_of a) (buffers sheet ledger' tally') ≡ open_call s (buffers sheet ledger tally) → ReportAnswers input a (tally' ++ rest)
    unfolding open_call report_reply opened
    opened-answers eh rest a h =
        let m = decode (season_of input) in
        let told = rw (es, eh, ← same-fault) at h in
        grind (arith, told, take_at (fresh_tally m (sheet_of input)) rest (m.C + 2) (length-tally m (sheet_of input)))
