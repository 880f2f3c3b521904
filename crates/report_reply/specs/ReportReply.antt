-- The reply that the report is made of: a refusal with its number, or the first row's verdict and totals.
use Rattle.std.specs.Prelude.{◌≡◌, List, [], ◌∷◌, ◌++◌, ℕ, zero, suc, ◌+◌, ◌*◌, pos, take}
use Rattle.robinx.specs.Season.{decode, most_games, most_constraints}
use Rattle.robinx.specs.Books.{timetable, total, is_hard, is_soft, verdict, fresh_tally}
use Rattle.robinx.specs.Calls.{declined, accepted}
use Rattle.robinx.specs.Refusals.{Sentence, sentence, sentence6, of_season}
use Rattle.robinx.specs.Report.{season_of, sheet_of, report_fault}
use Rattle.robinx.specs.declared.Reply.{Reply}

-- the most bytes of an input that are read: one more than the longest season with its sheet
abbrev pub most_bytes : ℕ
most_bytes = 6 + 2 * most_games + 24 * most_constraints + most_games + 1

-- the sentences that are decided before the opening
abbrev pub up_to_six : List ℕ → List Sentence
up_to_six season = of_season season ++ sentence 6 (sentence6 (decode season)) ∷ []

abbrev pub reply_unless : ℕ → Reply → Reply
reply_unless zero r = r
reply_unless (suc number) r = declined (suc number)

unfoldable pub report_reply : List ℕ → Reply
report_reply input =
    let m = decode (season_of input) in
    let x = timetable m (sheet_of input) in
    reply_unless (report_fault input) (accepted (verdict m (sheet_of input) (total is_hard m x)) (pos (total is_hard m x)) (pos (total is_soft m x)))

-- the tally begins with the penalties and totals of a sheet
abbrev pub TallyOf : List ℕ → List ℕ → List ℕ → Type 0
TallyOf season sheet tally = take ((decode season).C + 2) tally ≡ fresh_tally (decode season) sheet
