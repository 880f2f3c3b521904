-- `rows::lay` meets its contract: the word of each turn is the row's next eight counts. Assumes nothing.
use mathlib.Core.Path.{◌≡◌, refl, ap₂, ◌∙◌}
use mathlib.Core.List.{◌++◌}
use Prim.Native.Nat.{◌+◌, ◌-◌, ◌*◌, ◌/◌, ◌%◌, ◌^◌, ◌≤◌}
use native.Mathlib.Omega.{arith}
use Rattle.std.proofs.lemmas.Slice.{take-put_mid}
use Rattle.robinx.specs.Season.{most_slots}
use Rattle.robinx.specs.Sums.{sum_to, cat_to}
use Rattle.rows.specs.Rows.{up_to}
use Rattle.rows.proofs.Rows.{list-holds, list-join}
use Rattle.rows.proofs.Bytes.{count-le, Counts, counted, counts-fit, counts-bytes, counts-last}
use Rattle.rows.proofs.lay.Goals as goal
use Rattle.rows.proofs.lay.Goals.{After-eight}

pub loop-at-init : goal.loop-at-init
unfolding sum_to cat_to
loop-at-init c = record { count = refl; laid = refl }

room : (c : After-eight) → 8 * c.loop-at.at + 8 ≤ most_slots
room c = omega (arith, c.loop-at-test.true)

pub overflow_mul-counts : goal.overflow_mul-counts
overflow_mul-counts c = omega (arith, room c, c.loop-at.invariant.count, count-le c.args.v (8 * c.loop-at.at))

-- the word of the turn
word : (c : After-eight) → Counts c.args.v (8 * c.loop-at.at) (c.eight.result + c.loop-at.before * 0x0101010101010101)
word c =
    let l = c.loop-at in
    let byte = list-holds (λ i. c.args.v / 2 ^ (8 * i) % 256) 8 l.at c.loop-at-test.true in
    counted _ (8 * l.at) (rw c.bytes.ensures byte) l.invariant.count c.eight.ensures

pub overflow_add-counts : goal.overflow_add-counts
overflow_add-counts c = omega (arith, counts-fit c.args.v _ (room c) (word c))

pub loop-at-preserved : goal.loop-at-preserved
loop-at-preserved c =
    let l = c.loop-at in
    let v = c.args.v in
    let k = 8 * l.at in
    let m = (goal.at.loop-at-preserved c).After-eight in
    let next : 8 * (l.at + 1) ≡ k + 8 = omega arith in
    let bytes = c.copy_eight.ensures ∙ c.to_le_bytes.ensures ∙ counts-bytes v k (room m) (word m) in
    rw next (record {
      count = counts-last v k (room m) (word m);
      laid =
          take-put_mid k (k + 8 - k) l.row c.copy_eight.new.part (k + 8) (omega (arith, c.copy_eight.auto.part)) (omega (arith, c.requires, room m))
          ∙ ap₂ ◌++◌ l.invariant.laid bytes ∙ list-join (up_to v) (λ j. up_to v (k + j)) k 8 (λ j lj. refl);
    })
