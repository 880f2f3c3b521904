-- One name that opens every definition, for cases that are settled by computation: `unfolding all`.
use Rattle.robinx.specs.Sums.{sum_to, max_to, cat_to, any_to}
use Rattle.robinx.specs.Groups.{size, pairs}
use Rattle.robinx.specs.Season.{number, teams, slots, games, constraints, season_length, home_teams, away_teams, constraint_from, decode}
use Rattle.robinx.specs.Timetable.{is_at, meetings, games_with, games_in, games_against, games_up_to, between, games_between}
use Rattle.robinx.specs.Timetable.{plays, last_was, break_on, breaks_in, starts_trip, on_trip, along_trip, trip_counts, over_trips, meet, last_slot, collide, clash}
use Rattle.robinx.specs.Kinds.{kind_of, asks_of, form_of, asks_at, form_at}
use Rattle.robinx.specs.Deviations.{each, each_pair, over, worst, in_run, trips, trip_games, breaks, too_close, deviations_of, deviations, entries}
use Rattle.robinx.specs.Deviations.{dev_ca1, dev_ca2, dev_ca3, dev_ca4, dev_ca5, dev_ga1, dev_br1, dev_br2, dev_br4, dev_fa1, dev_fa2, dev_se1}
use Rattle.robinx.specs.Touch.{teams_touch, slot_touches, scope_of, touches}
use Rattle.robinx.specs.Penalty.{sum, sum_of_squares, largest, smallest, combine, penalty}
use Rattle.robinx.specs.Rules.{keeps, obeys}
use Rattle.robinx.specs.Books.{start_at, total, fresh_ledger, fresh_tally, verdict}
use Rattle.robinx.specs.Refusals.{encounters, bad_game, first_true, sentence1, sentence2, sentence3, sentence4, sentence5, sentence6, sentence7}
use Rattle.robinx.specs.Refusals.{sentence8, sentence9, sentence10, sentence11, sentence12, sentence13}
use Rattle.robinx.specs.Calls.{open_fault, opened, open_call, moved, touched, stretch_at, gained, lost, change, reworked, call_fault, call_on}
use Rattle.robinx.specs.Report.{season_of, sheet_of, report_fault, broken_rows, report_rows}
use Rattle.robinx.specs.PlainSheet.{plain_fault, plain_next, plain_after, changes}

unfoldable pub all : Unit {0}
unfolding sum_to max_to cat_to any_to size pairs number teams slots games constraints season_length home_teams away_teams constraint_from decode
    is_at meetings games_with games_in games_against games_up_to between games_between plays last_was break_on breaks_in
    starts_trip on_trip along_trip trip_counts over_trips meet last_slot collide clash kind_of asks_of form_of asks_at form_at each each_pair over worst
    dev_ca1 dev_ca2 in_run dev_ca3 dev_ca4 trips trip_games dev_ca5 dev_ga1 breaks dev_br1 dev_br2 dev_br4 dev_fa1 dev_fa2 too_close dev_se1
    deviations_of deviations entries teams_touch slot_touches scope_of touches sum sum_of_squares largest smallest combine penalty keeps obeys
    start_at total fresh_ledger fresh_tally verdict sentence1 sentence2 sentence3 encounters bad_game sentence4 sentence5 sentence6 sentence7 sentence8
    sentence9 sentence10 sentence11 sentence12 sentence13 first_true open_fault opened open_call moved touched stretch_at gained lost change reworked call_fault
    call_on season_of sheet_of report_fault broken_rows report_rows plain_fault plain_next plain_after changes
all = tt
