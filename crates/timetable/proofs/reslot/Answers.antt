-- Taken out and put: the two steps of TableSteps, one after the other. Assumes nothing.
use Rattle.robinx.proofs.Sheet.{byte_low}
use Rattle.timetable.proofs.TableSteps.{fits-reslotted}
use Rattle.timetable.proofs.reslot.Goals as goal

pub returns : goal.returns
returns c =
    let r = c.requires in
    let game = c.game-game.ensures in
    fits-reslotted r.0 _ _ r.2 (byte_low _) r.1
    (rw (game.0, game.1, c.of_byte.ensures) at c.take_out.ensures)
    (rw (game.0, game.1) at c.put.ensures)
