-- Each constraint in turn: those below c that are broken have a row, at most all.
use mathlib.Core.Path.{◌≡◌}
use mathlib.Core.List.{List, map}
use Prim.Native.Nat.{ℕ, ◌≤◌}
use Rattle.arrayvec.specs.ArrayVec.{array_vec_len}
use Rattle.report_reply.specs.ReportReply.{TallyOf}
use Rattle.report.specs.ReportRows.{broken_row, broken_of}
use Rattle.report.proofs.find_broken.Given as goal

abbrev pub invariant-loop-number : goal.invariant-loop-number
invariant-loop-number l = record {
  few : array_vec_len l.broken ≤ l.number;
  rows : (sheet : List ℕ) → TallyOf l.season.bytes.now sheet l.tally → map broken_row l.broken.items ≡ broken_of l.season.bytes.now sheet l.number;
}
