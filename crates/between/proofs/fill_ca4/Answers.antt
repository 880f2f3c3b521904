-- One figure for all of S, or one for each slot of it. Assumes nothing.
use mathlib.Core.Path.{◌≡◌, sym, ap, ◌∙◌}
use mathlib.Core.Bool.{Bool, cond}
use mathlib.Core.List.{List}
use native.Mathlib.Omega.{arith}
use Prim.Native.Nat.{ℕ}
use lib.ListN.{length}
use borrow.Author.Rules.{rules}
use Rattle.robinx.specs.Season.{slots_of}
use Rattle.robinx.specs.Groups.{size}
use Rattle.robinx.specs.Kinds.{kind_of, form_of}
use Rattle.robinx.specs.declared.Kind.TheVariants.{Ca4}
use Rattle.robinx.specs.Timetable.{first_modes}
use Rattle.robinx.specs.Deviations.{outside, dev_ca4}
use Rattle.robinx.proofs.Ext.{each-ext}
use Rattle.tables.specs.Tables.{x_of}
use Rattle.opponents.specs.Figures.{HasRoom}
use Rattle.opponents.specs.Sides.{code_of}
use Rattle.opponents.specs.declared.check.Check.{Check}
use Rattle.opponents.proofs.Checkable.{limits, places_of}
use Rattle.between.proofs.Between.{columns-between}
use Rattle.between.proofs.fill_ca4.Goals as goal

-- one place, or one for each slot of S
places : (k : Check) (out : List ℕ) {b : Bool} → HasRoom k out → kind_of k.constraint.kind ≡ Ca4 → b ≡ first_modes k.constraint.mode
    → length out ≡ cond b 1 (size k.sizes.slots (slots_of k.constraint))
unfolding form_of
places k out room e f = rw f (places_of k.checkable out room e)

pub fill_one-requires : goal.fill_one-requires
fill_one-requires c =
    places c.args.check.now c.args.out.now c.requires.0 c.requires.1 (sym c.if-first_modes.true ∙ c.first_modes.ensures)

pub returns-then-first_modes : goal.returns-then-first_modes
unfolding dev_ca4
returns-then-first_modes c = rw (← c.first_modes.ensures, c.if-first_modes.true, ← c.of_mode.ensures) c.fill_one.ensures

pub fill_columns-requires : goal.fill_columns-requires
fill_columns-requires c =
    let r = c.args.check.now.checkable in
    let few = r.teams in
    record {
      words = search rules;
      slots = (r.slots, (limits r).s);
      room = places c.args.check.now c.args.out.now c.requires.0 c.requires.1 (sym c.if-first_modes.false ∙ c.first_modes.ensures);
    }

pub returns : goal.returns
unfolding dev_ca4
returns c =
    let k = c.args.check.now in
    let con = k.constraint in
    let few = k.checkable.teams in
    let long : length c.lay_hosted.new.words ≡ k.sizes.teams = search rules in
    let masks = columns-between k.sizes.teams (x_of k.tables.now.meets) (code_of c.of_mode.result) con.t1 con.t2 long c.lay_hosted.ensures in
    rw (← c.first_modes.ensures, c.if-first_modes.false, ← c.of_mode.ensures)
    (rw c.range.ensures at c.fill_columns.ensures
    ∙ each-ext k.sizes.slots (slots_of con) (λ k l e. ap (outside con.kmin con.kmax) (masks k (omega (arith, c.args.check.now.checkable.slots)))))
