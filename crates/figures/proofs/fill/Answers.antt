-- `figures::fill` meets its contract: what is no kind has no place in the ledger. Assumes nothing.
use mathlib.Core.Path.{sym}
use Rattle.std.proofs.lemmas.List.{nil_from_length}
use Rattle.robinx.specs.Kinds.{form_of}
use Rattle.robinx.specs.Deviations.{deviations, deviations_of}
use Rattle.opponents.proofs.Checkable.{places_of}
use Rattle.figures.proofs.fill.Goals as goal

pub returns-in-Unknown : goal.returns-in-Unknown
unfolding deviations deviations_of form_of
returns-in-Unknown c =
    let e = c.in-Unknown.ensures in
    rw (← e) (nil_from_length c.args.out.now (places_of c.args.check.now.checkable c.args.out.now c.requires (sym e)))
