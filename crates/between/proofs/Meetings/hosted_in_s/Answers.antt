-- The mask's slots in S are the games in S. Assumes nothing.
use mathlib.Core.Path.{◌∙◌}
use Rattle.robinx.specs.Season.{most_slots, slots_of}
use Rattle.robinx.proofs.Ext.{over-ext}
use Rattle.between.proofs.Meetings.hosted_in_s.Goals as goal

pub returns : goal.returns
returns c = c.count_in.ensures ∙ over-ext most_slots (slots_of c.args.self.check.now.constraint) (λ k l e. c.hosted.ensures k l)
