-- The walk over s gives the figures of its slots below p. Assumes nothing.
use mathlib.Core.Path.{◌∙◌}
use Rattle.robinx.proofs.GroupSizes.{size-ones}
use Rattle.between.proofs.fill_columns.Goals as goal

pub fill-requires-clause-room : goal.fill-requires-clause-room
fill-requires-clause-room c = rw c.slots_in.ensures (c.requires.room ∙ size-ones c.args.p c.args.s c.requires.slots.1)
