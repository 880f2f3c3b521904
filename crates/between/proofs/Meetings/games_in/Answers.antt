-- All games are the games that each team hosts. Assumes nothing.
use mathlib.Core.Path.{sym, ◌∙◌}
use Prim.Native.Nat.{ℕ, ◌<◌, ◌^◌}
use native.Mathlib.Omega.{arith}
use borrow.Author.Rules.{rules}
use Rattle.std.specs.List.{sum_by, range_with_len}
use Rattle.std.proofs.lemmas.Iterator.{YieldsList-from_range, YieldsList-from_map}
use Rattle.std.proofs.lemmas.Iterator.Consumers.{sum_by_from_yields_List, fits_by_from_yields_list}
use Rattle.robinx.specs.Season.{most_slots, slots_of}
use Rattle.robinx.specs.Deviations.{over}
use Rattle.robinx.proofs.Sums.{sum_bound, sum_to-range}
use Rattle.tables.specs.Tables.{x_of}
use Rattle.opponents.specs.Sides.{code_of}
use Rattle.between.specs.Between.{hosts, of_meetings}
use Rattle.between.specs.declared.Meetings.{Meetings}
use Rattle.between.proofs.Between.{hosted-over, hosted-le}
use Rattle.between.proofs.Meetings.games_in.Goals as goal

abbrev hosted : Meetings → ℕ → ℕ
hosted m i = over most_slots (slots_of m.check.now.constraint) (of_meetings hosts m i)

small : (m : Meetings) → sum_by (hosted m) (range_with_len 0 m.check.now.sizes.teams) < 2 ^ 32
small m =
    let r = m.check.now.checkable in
    let c = m.check.now.constraint in
    let n = m.check.now.sizes.teams in
    let few = sum_bound {f = hosted m} n most_slots (λ i l. hosted-le r (slots_of c) (code_of m.sides) c.t1 c.t2 i l) in
    rw (← sum_to-range (hosted m) n) (omega (arith, r.teams, few))

pub sum-requires-clause-fits : goal.sum-requires-clause-fits
sum-requires-clause-fits c =
    let m = c.args.self in
    let n = m.check.now.sizes.teams in
    fits_by_from_yields_list (hosted m) (range_with_len 0 n) _ _
    (YieldsList-from_map _ (hosted m) (YieldsList-from_range 0 n n c.map.ensures.source (omega arith)) c.map.ensures.closure (λ x r q p. search rules))
    (small m)

pub returns : goal.returns
returns c =
    let m = c.args.self in
    let k = m.check.now in
    let n = k.sizes.teams in
    sum_by_from_yields_List (hosted m) (range_with_len 0 n) _ _ c.sum.ensures.ran
    (YieldsList-from_map _ (hosted m) (YieldsList-from_range 0 n n c.map.ensures.source (omega arith)) c.map.ensures.closure (λ x r q p. search rules))
    ∙ sym (sum_to-range (hosted m) n)
    ∙ hosted-over n (x_of k.tables.now.meets) (code_of m.sides) k.constraint.t1 k.constraint.t2 (slots_of k.constraint)
