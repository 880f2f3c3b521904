-- The tables, the figures and the count of unplaced games follow the sheet. Assumes nothing.
use mathlib.Core.Path.{refl}
use native.Mathlib.Omega.{arith}
use lib.Dec.{eqb}
use borrow.Author.Rules.{rules}
use Rattle.robinx.specs.Season.{decode}
use Rattle.robinx.specs.Calls.{Call, moved}
use Rattle.robinx.proofs.Sums.{only-le}
use Rattle.robinx.proofs.Sheet.{counts-none}
use Rattle.walk.specs.declared.Touch.TheVariants.{By}
use Rattle.calls.proofs.Outcomes.{set-touched}
use Rattle.calls.proofs.Accept.{range-most, as-many-slots, few-slots, counted, few-unplaced}
use Rattle.calls.proofs.Accept.{in-home, in-sheet, slot-possible, Taken, set-taken, set-busy, tied-after, call-is, unplaced-after-set}
use Rattle.sets.proofs.set_to.Goals as goal
use Rattle.sets.proofs.set_to.Goals.{In_ok-reslot}

pub games_of-games-requires : goal.games_of-games-requires
games_of-games-requires c = (range-most c.requires.0).teams

pub bounds-sheet-g : goal.bounds-sheet-g
bounds-sheet-g c = in-sheet c.requires.0 c.requires.1

pub reslot-requires : goal.reslot-requires
reslot-requires c =
    let r = c.requires.0 in
    rw (c.games_of-games.ensures.0, c.games_of-games.ensures.1)
    (range-most r, r.tables, in-home r c.requires.1)

pub game-requires : goal.game-requires
game-requires c = rw c.games_of-games.ensures.0 (in-home c.requires.0 c.requires.1)

pub of_byte-from-requires : goal.of_byte-from-requires
of_byte-from-requires c = slot-possible c.requires.0 c.requires.1

pub of_byte-to-requires : goal.of_byte-to-requires
of_byte-to-requires c = omega (arith, few-slots c.requires.0, c.requires.2)

pub overflow_sub-left : goal.overflow_sub-left
overflow_sub-left c = let p = c.requires in omega (arith, counts-none _ _ c.is_none.ensures c.from.ensures c.of_byte-from.ensures, counted p.0 p.1)

pub overflow_add-left : goal.overflow_add-left
overflow_add-left c =
    omega (arith, counts-none _ _ c.is_none-2.ensures c.from-2.ensures c.of_byte-to.ensures, few-unplaced c.requires.0, only-le (eqb c.args.b 0) 1)

pub bounds-sheet-g-2 : goal.bounds-sheet-g-2
bounds-sheet-g-2 c = in-sheet c.requires.0 c.requires.1

taken : (c : In_ok-reslot)
    → Taken (decode c.args.books.now.season.bytes.now) c.args.sheet.now (Call.set_slot c.args.g c.args.b) c.reslot.new.tables
taken c =
    let p = c.requires in
    set-taken _ _ p.1 p.2 (rw (c.games_of-games.ensures.0, c.games_of-games.ensures.1, c.of_byte-to.ensures) at c.in_ok-reslot.ensures)

pub rework-requires : goal.rework-requires
unfolding moved
rework-requires c =
    tied-after c.requires.0 (Call.set_slot c.args.g c.args.b) (taken (goal.at.rework-requires c).In_ok-reslot)

pub returns-clause-outcome : goal.returns-clause-outcome
unfolding moved
returns-clause-outcome c =
    let a = c.args in
    let p = c.requires in
    let m = decode a.books.now.season.bytes.now in
    call-is p.0 (Call.set_slot a.g a.b) (taken (goal.at.returns-clause-outcome c).In_ok-reslot) c.rework.ensures.answered
    (set-touched m a.sheet.now (By c.of-moves.result) (λ k. rw (c.of-moves.ensures.0, c.of-moves.ensures.1) refl) a.g a.b
    (rw (c.game.ensures.0, c.game.ensures.1, c.games_of-games.ensures.0, c.games_of-games.ensures.1, c.of_byte-from.ensures, c.of_byte-to.ensures)
    at c.of.ensures))
    (unplaced-after-set a.sheet.now a.g a.b m.G p.1 (as-many-slots p.0) p.0.count
    (counts-none _ _ c.is_none.ensures c.from.ensures c.of_byte-from.ensures)
    (counts-none _ _ c.is_none-2.ensures c.from-2.ensures c.of_byte-to.ensures)
    refl)

pub returns-in_err-reslot-clause-outcome : goal.returns-in_err-reslot-clause-outcome
returns-in_err-reslot-clause-outcome c =
    let a = c.args in
    let p = c.requires in
    let games = c.games_of-games.ensures in
    let busy = rw (games.0, games.1, c.of_byte-to.ensures) at c.in_err-reslot.ensures in
    rw (set-busy (decode a.books.now.season.bytes.now) a.sheet.now p.1 p.2 busy) (search rules)
