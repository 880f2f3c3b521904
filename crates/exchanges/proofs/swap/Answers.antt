-- The tables and the figures follow the sheet, and as many games are unplaced as before. Assumes nothing.
use mathlib.Core.Path.{refl}
use borrow.Author.Rules.{rules}
use Rattle.robinx.specs.Season.{decode}
use Rattle.robinx.specs.Calls.{Call, moved}
use Rattle.walk.specs.declared.Touch.TheVariants.{By}
use Rattle.calls.proofs.Outcomes.{exchange-touched}
use Rattle.calls.proofs.Accept.{range-most, as-many-slots}
use Rattle.calls.proofs.Accept.{in-home, slot-possible, Taken, exchange-taken, exchange-busy, tied-after, call-is, unplaced-after-exchange}
use Rattle.exchanges.proofs.swap.Goals as goal
use Rattle.exchanges.proofs.swap.Goals.{In_ok-swap}

pub games_of-games-requires : goal.games_of-games-requires
games_of-games-requires c = (range-most c.requires.0).teams

pub swap-requires : goal.swap-requires
swap-requires c =
    let p = c.requires in
    rw (c.games_of-games.ensures.0, c.games_of-games.ensures.1)
    (range-most p.0, p.0.tables, in-home p.0 p.1, in-home p.0 p.2, p.3)

pub game-requires : goal.game-requires
game-requires c = rw c.games_of-games.ensures.0 (in-home c.requires.0 c.requires.1)

pub game-requires-2 : goal.game-requires-2
game-requires-2 c = rw c.games_of-games.ensures.0 (in-home c.requires.0 c.requires.2)

pub of_byte-from-requires : goal.of_byte-from-requires
of_byte-from-requires c = slot-possible c.requires.0 c.requires.1

pub of_byte-to-requires : goal.of_byte-to-requires
of_byte-to-requires c = slot-possible c.requires.0 c.requires.2

taken : (c : In_ok-swap)
    → Taken (decode c.args.books.now.season.bytes.now) c.args.sheet.now (Call.exchange c.args.g c.args.h) c.swap.new.tables
taken c =
    let p = c.requires in
    exchange-taken _ _ p.1 p.2 p.3 p.4 (rw (c.games_of-games.ensures.0, c.games_of-games.ensures.1) at c.in_ok-swap.ensures)

pub rework-requires : goal.rework-requires
unfolding moved
rework-requires c =
    tied-after c.requires.0 (Call.exchange c.args.g c.args.h) (taken (goal.at.rework-requires c).In_ok-swap)

pub returns-clause-outcome : goal.returns-clause-outcome
unfolding moved
returns-clause-outcome c =
    let a = c.args in
    let p = c.requires in
    let games = c.games_of-games.ensures in
    let m = decode a.books.now.season.bytes.now in
    call-is p.0 (Call.exchange a.g a.h) (taken (goal.at.returns-clause-outcome c).In_ok-swap) c.rework.ensures.answered
    (exchange-touched m a.sheet.now (By c.of-moves.result) (λ k. rw (c.of-moves.ensures.0, c.of-moves.ensures.1) refl) a.g a.h
    (rw (c.game.ensures.0, c.game.ensures.1, games.0, games.1, c.of_byte-from.ensures, c.of_byte-to.ensures) at c.of-first.ensures)
    (rw (c.game-2.ensures.0, c.game-2.ensures.1, games.0, games.1, c.of_byte-from.ensures, c.of_byte-to.ensures) at c.of-second.ensures))
    (unplaced-after-exchange a.sheet.now a.g a.h m.G p.1 p.2 p.3 (as-many-slots p.0) p.0.count p.4)

pub returns-in_err-swap-clause-outcome : goal.returns-in_err-swap-clause-outcome
unfolding moved
returns-in_err-swap-clause-outcome c =
    let a = c.args in
    let p = c.requires in
    let games = c.games_of-games.ensures in
    let busy = rw (games.0, games.1) at c.in_err-swap.ensures in
    rw (exchange-busy (decode a.books.now.season.bytes.now) a.sheet.now p.1 p.2 p.3 p.4 busy) (search rules)
