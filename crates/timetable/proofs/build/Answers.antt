-- Before turn g the first g games are placed and fit. Assumes nothing.
use mathlib.Core.Path.{◌≡◌, sym, ◌∙◌}
use Prim.Native.Nat.{◌+◌, ◌≤◌}
use native.Mathlib.Omega.{arith}
use borrow.Author.Rules.{rules}
use lib.ListN.{length}
use Rattle.std.proofs.lemmas.List.{length_push}
use Rattle.robinx.specs.declared.Refusal.TheVariants.{BadSheet}
use Rattle.robinx.proofs.Sheet.{counts-none}
use Rattle.timetable.proofs.SideBySide.{At, three-turn, three-end}
use Rattle.timetable.proofs.FirstGames.{unplaced-next, unplaced-low}
use Rattle.timetable.proofs.BuildTurns.{none_yet, ends_above, ends-busy, next-turn, ends-whole}
use Rattle.timetable.proofs.build.Goals as goal
use Rattle.timetable.proofs.build.Goals.{In-Some}

-- the game of this turn
turn : (c : In-Some) → At c.args.games.homes.now c.args.games.aways.now c.args.sheet.now (length c.loop-home.yielded)
    ((c.in-Some.field-0-0-0, c.in-Some.field-0-0-1), c.in-Some.field-0-1)
turn c =
    three-turn _ _ _ c.into_iter-home-iterator.result (cc) (cc) (cc) c.loop-home.yielded c.loop-home.home-iterator c.next.new.self
    c.loop-home.yielded_by c.next.result c.next.ensures.steps _ c.in-Some.is

pub loop-home-init : goal.loop-home-init
loop-home-init c = let r = c.requires in none_yet r.0 c.args.games.teams r.2

pub returns-then-p-from : goal.returns-then-p-from
returns-then-p-from c =
    let t = turn (goal.at.returns-then-p-from c).In-Some in
    ends_above c.requires.0 (length c.loop-home.yielded) t.within (rw (c.from.ensures, t.third) at c.if-p-from.true)

pub invariant_of-put : goal.invariant_of-put
invariant_of-put c =
    let t = turn (goal.at.invariant_of-put c).In-Some in
    let teams = c.args.games.teams in
    record { home_team = rw t.first (teams.home-below _ t.within); away_team = rw t.second (teams.away-below _ t.within) }

pub returns-in_err-map_err : goal.returns-in_err-map_err
returns-in_err-map_err c =
    let r = c.requires in
    let t = turn (goal.at.returns-in_err-map_err c).In-Some in
    let sheet : c.in_err-map_err.field-0.0 ≡ BadSheet = grind arith in
    let low : c.in-Some.field-0-1.now ≤ c.args.p = rw c.from.ensures at c.if-p-from.false in
    let tried = rw (c.of_byte-slot.ensures, t.first, t.second, t.third) at c.put.ensures in
    let busy = ends-busy r.0 c.loop-home.invariant t.within r.1 (rw t.third at low) tried (sym c.in_err-map_err.ensures.variant) in
    search rules

pub overflow_add-unplaced : goal.overflow_add-unplaced
overflow_add-unplaced c =
    let s = c.args.sheet.now in
    let n = length c.loop-home.yielded in
    let t = turn (goal.at.overflow_add-unplaced c).In-Some in
    let most = unplaced-low s (n + 1) in
    let one = counts-none _ _ c.is_none.ensures c.from-unplaced.ensures (c.of_byte-slot.ensures ∙ t.third) in
    let more = unplaced-next s n c.loop-home.invariant.count one in
    search rules

pub loop-home-preserved : goal.loop-home-preserved
loop-home-preserved c =
    let r = c.requires in
    let t = turn (goal.at.loop-home-preserved c).In-Some in
    let low : c.in-Some.field-0-1.now ≤ c.args.p = rw c.from.ensures at c.if-p-from.false in
    let tried = rw (c.of_byte-slot.ensures, t.first, t.second, t.third) at c.put.ensures in
    rw length_push
    (next-turn r.0 c.loop-home.invariant t.within r.1 (rw t.third at low) tried (sym c.in_ok-map_err.ensures.variant)
    (counts-none _ _ c.is_none.ensures c.from-unplaced.ensures (c.of_byte-slot.ensures ∙ t.third)))

pub returns : goal.returns
returns c =
    let r = c.requires in
    ends-whole r.0 c.loop-home.invariant
    (three-end _ _ _ c.into_iter-home-iterator.result (cc) (cc) (cc) c.loop-home.yielded c.loop-home.home-iterator c.next.new.self
    c.loop-home.yielded_by c.next.result c.next.ensures.steps c.args.games.teams.aways-length r.0 c.in-None.is)
