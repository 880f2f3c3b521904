-- A longer input is cut at the length that its sizes give.
use Rattle.reader.proofs.Read.{length-asked}
use Rattle.report_reply.proofs.Cut.{cut}
use Rattle.report_reply.proofs.season_end.Goals as goal

pub returns : goal.returns
returns c = cut _ (rw (length-asked _ c.sizes-sizes.ensures.read, ← c.length.ensures) c.min.ensures)
