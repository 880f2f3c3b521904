-- `groups::fill::total` meets its contract. Assumes nothing.
use Rattle.groups.proofs.FigureWalk.{map-callable, sum-fits, sum-total}
use Rattle.groups.proofs.fill.total.Goals as goal

pub sum-requires-clause-can : goal.sum-requires-clause-can
sum-requires-clause-can g c =
    let m = c.map.ensures in (
      tt,
      map-callable g.F.Fn g.met.F.Fn.1 c.map.result c.args.figure m.closure (rw m.source c.members.ensures)
          c.ranges.group.fits c.requires.callable,
    )

pub sum-requires-clause-fits : goal.sum-requires-clause-fits
sum-requires-clause-fits g c =
    let m = c.map.ensures in
    sum-fits g.F.Fn g.met.F.Fn.1 c.map.result c.args.figure m.closure (rw m.source c.members.ensures) c.ranges.group.fits
    g.met.F.FnMut.1 c.requires.small

pub returns : goal.returns
returns g c =
    let m = c.map.ensures in
    sum-total g.F.Fn g.met.F.Fn.1 c.map.result c.args.figure m.closure (rw m.source c.members.ensures) c.ranges.group.fits
    g.met.F.FnMut.1 c.requires.small c.sum.ensures.ran
