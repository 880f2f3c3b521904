-- `counts::team_count` meets its contract. Assumes nothing.
use Rattle.counts.proofs.TeamFigures.{count-games}
use Rattle.counts.proofs.team_count.Goals as goal

pub returns : goal.returns
returns c =
    let a = c.args in
    rw (c.outside.ensures, c.range.ensures, c.count_in-games.ensures)
    (count-games a.check.now a.rivals a.t c.counted.result c.counted.ensures)
