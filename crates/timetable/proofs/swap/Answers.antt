-- Taken out twice and put twice: the steps of TableSteps, one after the other. Assumes nothing.
use mathlib.Core.Path.{refl}
use borrow.Author.Rules.{rules}
use Rattle.timetable.proofs.TableSteps.{swap-ends, swap-fits}
use Rattle.timetable.proofs.swap.Goals as goal

pub returns-in_err-put : goal.returns-in_err-put
returns-in_err-put c =
    let r = c.requires in
    let first = c.game-first.ensures in
    let second = c.game-second.ensures in
    let clash = swap-ends r.0 _ _ r.2 r.3 r.4 r.1
    (rw (first.0, first.1, c.of_byte-here.ensures) at c.take_out.ensures)
    (rw (second.0, second.1, c.of_byte-there.ensures) at c.take_out-2.ensures)
    (rw (first.0, first.1, c.of_byte-there.ensures) at c.in_err-put.ensures)
    {t = c.put.new.self} refl in
    search rules

pub returns : goal.returns
returns c =
    let r = c.requires in
    let first = c.game-first.ensures in
    let second = c.game-second.ensures in
    swap-fits r.0 _ _ r.2 r.3 r.4 r.1
    (rw (first.0, first.1, c.of_byte-here.ensures) at c.take_out.ensures)
    (rw (second.0, second.1, c.of_byte-there.ensures) at c.take_out-2.ensures)
    (rw (first.0, first.1, c.of_byte-there.ensures) at c.in_ok-put.ensures) refl
    (rw (second.0, second.1, c.of_byte-here.ensures) at c.put-2.ensures)
