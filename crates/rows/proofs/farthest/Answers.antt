-- `rows::farthest` meets its contract. Assumes nothing.
use mathlib.Core.Path.{◌∙◌}
use Prim.Native.Nat.{max, min}
use borrow.Author.Rules.{rules}
use Rattle.robinx.specs.Sums.{dist}
use Rattle.std.proofs.lemmas.Iterator.{YieldsList-from_slice, YieldsList-from_zip}
use Rattle.std.proofs.lemmas.Iterator.Consumers.{YieldsList-at, fold_from_yields_List}
use Rattle.rows.proofs.Rows.{farthest-fold}
use Rattle.rows.proofs.farthest.Goals as goal

pub returns : goal.returns
returns c =
    let a = c.args in
    fold_from_yields_List _ (λ far p. max far (min p.1 (dist p.0.0 p.0.1))) 0 c.fold.result c.fold.ensures.ran
    (YieldsList-from_zip
    (YieldsList-at c.zip-2.ensures.first (YieldsList-from_zip (YieldsList-from_slice a.a.now cc) (YieldsList-from_slice a.b.now cc)))
    (YieldsList-from_slice a.marks.now cc))
    (λ v x b q k. search rules)
    ∙ farthest-fold a.marks.now a.a.now a.b.now (search rules) (search rules) (search rules)
