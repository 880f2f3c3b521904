-- The rows of the broken constraints, and what a tally tells of them.
use mathlib.Core.Path.{◌≡◌, refl, sym, ap, ◌∙◌}
use mathlib.Core.List.{List, [], ◌∷◌, ◌++◌, map, map-append, append-nil}
use Prim.Native.Nat.{ℕ, ◌+◌, ◌<◌}
use mathlib.Core.Logic.{◌≢◌}
use native.Mathlib.Numerals.{add-one}
use native.Mathlib.Omega.{arith}
use lib.ListN.{length, take, get_or}
use lib.Seq.{get_or-take}
use Rattle.std.proofs.lemmas.List.{length-take}
use borrow.Author.Tests.{lt-ltb, le-ltb}
use Rattle.robinx.specs.Season.{Instance, decode}
use Rattle.robinx.specs.Books.{timetable, penalty_at, fresh_tally}
use Rattle.robinx.specs.Report.{broken_rows}
use Rattle.robinx.specs.declared.Constraint.{Constraint}
use Rattle.robinx.specs.declared.Season.{Season}
use Rattle.robinx.proofs.Lengths.{list_at}
use Rattle.reader.specs.Sizes.{sizes_of}
use Rattle.reader.proofs.Read.{constraints-read}
use Rattle.report_reply.specs.ReportReply.{TallyOf}
use Rattle.report.specs.ReportRows.{penalty_of, broken_row}
use Rattle.report.specs.declared.BrokenConstraint.{BrokenConstraint}

-- before the first constraint
pub none_yet : (m : Instance) (sheet : List ℕ) → [] ≡ broken_rows m sheet 0
unfolding broken_rows
none_yet m sheet = refl

-- The next constraint: a penalty of 0 has no row, any other one has.
module _ (m : Instance) (sheet : List ℕ) (c : ℕ) {p : ℕ} (e : p ≡ penalty_at m (timetable m sheet) c) where
  pub not-broken : p ≡ 0 → broken_rows m sheet c ≡ broken_rows m sheet (c + 1)
  unfolding broken_rows
  not-broken z = rw (add-one, le-ltb 0 (penalty_at m (timetable m sheet) c) (omega (arith, e, z))) (sym (append-nil (broken_rows m sheet c)))

  broken : {read : Constraint} → read ≡ m.constraint c → p ≢ 0
      → broken_rows m sheet (c + 1) ≡ broken_rows m sheet c ++ (c ∷ read.kind ∷ p ∷ []) ∷ []
  unfolding broken_rows
  broken r s = rw (r, e, add-one, lt-ltb 0 (penalty_at m (timetable m sheet) c) (omega (arith, e, s)))

  pub row-more : {read : Constraint} → read ≡ m.constraint c → p ≢ 0 → (before : List BrokenConstraint)
      → map broken_row before ≡ broken_rows m sheet c
      → map broken_row (before ++ (record { number = c; kind = read.kind; penalty = p }) ∷ []) ≡ broken_rows m sheet (c + 1)
  row-more r s before w = rw (broken r s, map-append, w)

-- What a tally of the sheet has at each place.
module _ (season sheet tally : List ℕ) (f : TallyOf season sheet tally) where
  at : (k : ℕ) → k < (decode season).C + 2 → get_or tally k 0 ≡ get_or (fresh_tally (decode season) sheet) k 0
  at k h = sym (get_or-take ((decode season).C + 2) tally k 0 h) ∙ ap (λ (l : List ℕ). get_or l k 0) f

  pub penalty-read : {z : Season} → z ≡ sizes_of season → {c : ℕ} → c < length (take z.constraints tally)
      → get_or (take z.constraints tally) c 0 ≡ penalty_of season sheet c
  unfolding fresh_tally
  penalty-read {z} e {c} h =
      let below : c < z.constraints = omega (arith, length-take z.constraints tally) in
      let few : c < (decode season).C = omega (arith, constraints-read season e) in
      get_or-take z.constraints tally c 0 below ∙ at c (omega (arith, few)) ∙ list_at (penalty_of season sheet) (decode season).C c _ few
