-- `trips::off_trips` meets its contract. Assumes nothing.
use Rattle.std.proofs.Common.{rules, ◌≡◌, ap, ◌∙◌}
use Rattle.robinx.specs.Season.{most_slots}
use Rattle.robinx.specs.Groups.{bit}
use Rattle.robinx.specs.Deviations.{over, outside}
use Rattle.opponents.proofs.Checkable.{limits}
use Rattle.trips.proofs.Runs.{little}
use Rattle.trips.proofs.TeamTrips.{games}
use Rattle.trips.proofs.off_trips.Goals as goal

pub against-wanted-requires : goal.against-wanted-requires
against-wanted-requires c = (c.requires, (limits c.args.check.now.checkable).t2)

pub sum_trips-requires-clause-small : goal.sum_trips-requires-clause-small
sum_trips-requires-clause-small c =
    λ trip r p.
    let k = c.args.check.now.constraint in
    little k.kmin k.kmax c.against-wanted.result trip r (limits c.args.check.now.checkable).kmin (search rules)

pub returns : goal.returns
returns c =
    let k = c.args.check.now in
    let d = k.constraint in
    let wanted = c.against-wanted in
    c.sum_trips.ensures _ (λ a m r of p.
    let e : r ≡ outside d.kmin d.kmax (over most_slots m (bit wanted.result)) = search rules in
    e ∙ ap (outside d.kmin d.kmax) (games k c.args.t c.requires wanted.result wanted.ensures a m of))
