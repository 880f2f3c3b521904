-- The games against the group of all teams are all games. Assumes nothing.
use mathlib.Core.Path.{ap, ◌∙◌}
use Rattle.robinx.specs.Season.{slots_of}
use Rattle.robinx.specs.Timetable.{side}
use Rattle.robinx.specs.Deviations.{outside, dev_ca1}
use Rattle.robinx.proofs.Ext.{over-ext, each-ext}
use Rattle.tables.specs.Tables.{x_of}
use Rattle.opponents.proofs.Games.{against-all}
use Rattle.counts.proofs.fill_ca1.Goals as goal

pub returns : goal.returns
unfolding dev_ca1
returns c =
    let k = c.args.check.now in
    let n = k.sizes.teams in
    let d = k.constraint in
    c.fill_counts.ensures
    ∙ each-ext n d.t1 (λ t l h.
    ap (outside d.kmin d.kmax) (over-ext k.sizes.slots (slots_of d) (λ s ls e.
    against-all n (x_of k.tables.now.meets) (side d.mode) t c.everyone.result s c.everyone.ensures)))
