-- `trips::sum_trips` meets its contract. Assumes nothing.
use Rattle.std.proofs.Common.{rules, ap, ◌∙◌}
use Rattle.std.specs.Iterator.Adapters.{filter_map_source, filter_map_callee}
use Rattle.trips.proofs.TripWalk.{trips-fit, trips-total}
use Rattle.trips.proofs.sum_trips.Goals as goal

pub sum-requires-clause-fits : goal.sum-requires-clause-fits
sum-requires-clause-fits g c =
    let m = c.map in
    let slots = ap (λ s. s.rest) (ap filter_map_source m.ensures.source ∙ c.filter_map.ensures.source) ∙ c.slots_in.ensures ∙ c.common.ensures in
    trips-fit _ g.F.Fn g.met.F.FnMut.1 g.met.F.Fn.1 c.args.check.now c.args.t c.requires.team _ c.front.ensures _ c.trip_starts.ensures
    _ c.args.added (λ a o q z. search rules) c.requires.small m.result m.ensures.closure
    (ap filter_map_callee m.ensures.source ∙ c.filter_map.ensures.closure) slots

pub returns : goal.returns
returns g c =
    let m = c.map in
    let slots = ap (λ s. s.rest) (ap filter_map_source m.ensures.source ∙ c.filter_map.ensures.source) ∙ c.slots_in.ensures ∙ c.common.ensures in
    trips-total _ g.F.Fn g.met.F.FnMut.1 g.met.F.Fn.1 c.args.check.now c.args.t c.requires.team _ c.front.ensures _ c.trip_starts.ensures
    _ c.args.added (λ a o q z. search rules) c.requires.small m.result m.ensures.closure
    (ap filter_map_callee m.ensures.source ∙ c.filter_map.ensures.closure) slots c.sum.ensures.ran
