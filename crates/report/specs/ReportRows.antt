-- The rows of a report, and what a report answers.
use Rattle.std.specs.Prelude.{◌≡◌, ◌≢◌, List, [], ◌∷◌, map, ℕ, Result, MatchResult}
use Rattle.robinx.specs.Season.{decode}
use Rattle.robinx.specs.Books.{timetable, penalty_at}
use Rattle.robinx.specs.Report.{broken_rows, report_fault, report_rows}
use Rattle.robinx.specs.RefusalNumbers.{number_of}
use Rattle.robinx.specs.declared.Refusal.{Refusal}
use Rattle.replies.specs.Verdict.{verdict_number}
use Rattle.replies.specs.declared.Accepted.{Accepted}
use Rattle.report.specs.declared.BrokenConstraint.{BrokenConstraint}
use Rattle.report.specs.declared.Report.{Report}

-- on a sheet: the penalty of constraint c, and the rows of the broken constraints below c
abbrev pub penalty_of : List ℕ → List ℕ → ℕ → ℕ
penalty_of season sheet c = penalty_at (decode season) (timetable (decode season) sheet) c

abbrev pub broken_of : List ℕ → List ℕ → ℕ → List (List ℕ)
broken_of season sheet c = broken_rows (decode season) sheet c

-- the row of a broken constraint
abbrev pub broken_row : BrokenConstraint → List ℕ
broken_row b = b.number ∷ b.kind ∷ b.penalty ∷ []

-- the row before those, by what the opening answers: its changes are the totals
abbrev pub first_row : Accepted → List ℕ
first_row a = verdict_number a.verdict ∷ a.change.hard ∷ a.change.soft ∷ []

-- .. and all rows of a report
abbrev pub rows_of : Report → List (List ℕ)
rows_of r = (verdict_number r.verdict ∷ r.infeasibility ∷ r.objective ∷ []) ∷ map broken_row r.broken.items

-- the refusal, or an opening and a list whose rows are those of the input
abbrev pub ReportedInto : List ℕ → Result Accepted Refusal → List BrokenConstraint → Type 0
ReportedInto input r broken =
    MatchResult r
    (λ a. (report_fault input ≡ 0) × (first_row a ∷ map broken_row broken ≡ report_rows input))
    (λ refusal. (report_fault input ≢ 0) × (number_of refusal ≡ report_fault input))

-- the report whose rows are those of the input, or the refusal
abbrev pub Reported : List ℕ → Result Report Refusal → Type 0
Reported input r =
    MatchResult r
    (λ report. (report_fault input ≡ 0) × (rows_of report ≡ report_rows input))
    (λ refusal. (report_fault input ≢ 0) × (number_of refusal ≡ report_fault input))
