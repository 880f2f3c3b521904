-- The first game that cannot be is sentence 4.
use borrow.Author.Rules.{rules}
use Rattle.std.proofs.Common.{◌≡◌, ◌<◌, length, get_or, ◌∙◌, arith}
use Rattle.std.proofs.lemmas.Slice.Zip.{zip_turn, zip_end}
use Rattle.std.proofs.lemmas.List.{length_push}
use Rattle.games.specs.Meetings.{CountsGame}
use Rattle.games.proofs.Meetings.{counted_none, counted-next, stops, counted-good}
use Rattle.games.proofs.examine.Goals as goal
use Rattle.games.proofs.examine.Goals.{After-count_game}

-- the teams of this turn are those of the next game
pub record Turn (c : After-count_game) : Type 0 where
  pub within : length c.loop-i.yielded < length c.args.homes.now
  pub counts : CountsGame (get_or c.args.homes.now (length c.loop-i.yielded) 0) (get_or c.args.aways.now (length c.loop-i.yielded) 0) c.args.n
      c.loop-i.meetings c.count_game.new.meetings c.count_game.result

turn : (c : After-count_game) → Turn c
turn c =
    let t =
    zip_turn c.args.homes.now c.args.aways.now c.loop-i.yielded c.into_iter-i-iterator.result
    c.loop-i.i-iterator c.next.new.self c.next.result (cc) (cc)
    c.loop-i.yielded_by _ c.in-Some.is c.next.ensures.steps in
    record { within = t.0; counts = rw (c.from.ensures ∙ t.2 0, c.from-in-loop-i.ensures ∙ t.3 0) at c.count_game.ensures }

pub loop-i-init : goal.loop-i-init
loop-i-init c = counted_none _ _ _

pub returns-in_err-count_game : goal.returns-in_err-count_game
returns-in_err-count_game c =
    let t = turn (goal.at.returns-in_err-count_game c).After-count_game in
    let bad = stops c.requires.1 c.loop-i.invariant t.within (rw c.in_err-count_game.was at t.counts) in
    search rules

pub loop-i-preserved : goal.loop-i-preserved
loop-i-preserved c =
    let t = turn (goal.at.loop-i-preserved c).After-count_game in
    rw length_push (counted-next c.requires.1 c.loop-i.invariant (rw c.in_ok-count_game.was at t.counts))

pub returns : goal.returns
returns c =
    let t =
    zip_end c.args.homes.now c.args.aways.now c.loop-i.yielded c.into_iter-i-iterator.result
    c.loop-i.i-iterator c.next.new.self c.next.result (cc) (cc)
    c.loop-i.yielded_by c.in-None.is c.next.ensures.steps in
    let e : length c.loop-i.yielded ≡ length c.args.homes.now = omega arith in
    counted-good c.requires.1 (rw e at c.loop-i.invariant)
