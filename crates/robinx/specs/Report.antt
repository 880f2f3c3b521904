-- The report program (FORMAT 8): what its input is, when it refuses, and the rows that it prints.
use Rattle.std.specs.Prelude.{List, [], ◌∷◌, ◌++◌, Bool, true, false, ℕ, zero, suc, ◌+◌, ltb, take, drop}
use Rattle.robinx.specs.Season.{Instance, decode, season_length}
use Rattle.robinx.specs.Books.{timetable, penalty_at, is_hard, is_soft, all_entries, total, verdict}
use Rattle.robinx.specs.Refusals.{sentence, first_true, of_season, of_sheet, sentence6}

-- the season is as long as its sizes say, and what follows it is the sheet
unfoldable pub season_of : List ℕ → List ℕ
season_of input = take (season_length input) input

unfoldable pub sheet_of : List ℕ → List ℕ
sheet_of input = drop (season_length input) input

-- the refusal's number, 0 for none; ledger and tally are the program's own and fit
unfoldable pub report_fault : List ℕ → ℕ
report_fault input =
    let m = decode (season_of input) in
    first_true
    (of_season (season_of input)
    ++ sentence 6 (sentence6 m) ∷ []
    ++ of_sheet m (sheet_of input) (all_entries m) (m.C + 2))

-- a row for each of the first k constraints that is broken: its number, kind and penalty
abbrev row_if : Bool → ℕ → ℕ → ℕ → List (List ℕ)
row_if true c kind p = (c ∷ kind ∷ p ∷ []) ∷ []
row_if false c kind p = []

unfoldable pub broken_rows : Instance → List ℕ → ℕ → List (List ℕ)
broken_rows m sheet zero = []
broken_rows m sheet (suc c) =
    broken_rows m sheet c
    ++ row_if (ltb 0 (penalty_at m (timetable m sheet) c)) c (m.constraint c).kind (penalty_at m (timetable m sheet) c)

-- the rows of an input that is not refused: verdict, infeasibility and objective, then the broken constraints
unfoldable pub report_rows : List ℕ → List (List ℕ)
report_rows input =
    let m = decode (season_of input) in
    let x = timetable m (sheet_of input) in
    (verdict m (sheet_of input) (total is_hard m x) ∷ total is_hard m x ∷ total is_soft m x ∷ [])
    ∷ broken_rows m (sheet_of input) m.C
