-- Each team has its group in the union.
use Rattle.touch.proofs.Teams.{of_pair}
use Rattle.touch.proofs.moves.Move.teams.Goals as goal

pub returns : goal.returns
returns c = rw (c.one.ensures, c.one-2.ensures, c.from.ensures, c.from-2.ensures) (of_pair c.args.self)
