-- All games in S, in the one place. Assumes nothing.
use mathlib.Core.Path.{◌∙◌, ap}
use mathlib.Core.List.{[], ◌∷◌}
use Prim.Native.Nat.{ℕ}
use Rattle.robinx.specs.Deviations.{outside}
use Rattle.robinx.proofs.Filled.{filled-one}
use Rattle.opponents.proofs.Checkable.{over-slots}
use Rattle.between.proofs.Meetings.fill_one.Goals as goal

pub returns : goal.returns
returns c =
    let k = c.args.self.check.now in
    let d = k.constraint in
    filled-one c.args.out.now c.outside.result c.requires
    ∙ rw (c.outside.ensures, c.range.ensures) (ap (λ (v : ℕ). outside d.kmin d.kmax v ∷ []) (c.games_in.ensures ∙ over-slots k.checkable _))
