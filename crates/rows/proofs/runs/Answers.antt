-- The figures of the first n runs, summed. Assumes nothing.
use mathlib.Core.Path.{sym, ◌∙◌}
use native.Mathlib.Omega.{arith}
use borrow.Author.Rules.{rules}
use Rattle.std.specs.List.{range_with_len}
use Rattle.std.proofs.lemmas.Iterator.{YieldsList-from_range, YieldsList-from_map}
use Rattle.std.proofs.lemmas.Iterator.Consumers.{sum_by_from_yields_List, fits_by_from_yields_list}
use Rattle.robinx.proofs.Sums.{sum_bound, sum_to-range}
use Rattle.rows.specs.Rows.{off_run, runs_to}
use Rattle.rows.proofs.runs.Goals as goal

pub sum-requires-clause-fits : goal.sum-requires-clause-fits
sum-requires-clause-fits c =
    let a = c.args in
    let f = off_run a.row.now a.w a.range.low a.range.high in
    fits_by_from_yields_list f (range_with_len 0 a.n) _ _
    (YieldsList-from_map _ f (YieldsList-from_range 0 a.n a.n c.map.ensures.source (omega arith)) c.map.ensures.closure (λ x r q p. search rules))
    (rw (← sum_to-range f a.n) (omega (arith, sum_bound {f = f} a.n 255 (λ k l. search rules))))

pub returns : goal.returns
unfolding runs_to
returns c =
    let a = c.args in
    let f = off_run a.row.now a.w a.range.low a.range.high in
    sum_by_from_yields_List f (range_with_len 0 a.n) _ _ c.sum.ensures.ran
    (YieldsList-from_map _ f (YieldsList-from_range 0 a.n a.n c.map.ensures.source (omega arith)) c.map.ensures.closure (λ x r q p. search rules))
    ∙ sym (sum_to-range f a.n)
