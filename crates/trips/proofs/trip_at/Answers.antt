-- `trips::trip_at` meets its contract. Assumes nothing.
use Rattle.trips.proofs.Runs.{trip-run}
use Rattle.trips.proofs.trip_at.Goals as goal

pub returns : goal.returns
returns c =
    let a = c.args in
    rw (c.then_some.ensures, c.ends_in.ensures) (trip-run a.pattern.away a.pattern.home a.a c.trip_from-run.result c.trip_from-run.ensures a.s)
