-- `penalties::smallest` meets its contract. Assumes nothing.
use Rattle.std.proofs.Common.{ℕ, ap, sym, ◌∙◌, Option}
use Rattle.std.specs.Option.{unwrap_or}
use Rattle.std.proofs.lemmas.Iterator.{YieldsList-from_slice}
use Rattle.std.proofs.lemmas.Iterator.Consumers.{YieldsList-from_copied, min_from_yields_List}
use Rattle.std.proofs.lemmas.Iterator.Adapters.{option_map_id}
use Rattle.penalties.proofs.Folds.{smallest-is}
use Rattle.penalties.proofs.smallest.Goals as goal

pub returns : goal.returns
returns c =
    let r = sym (option_map_id _) ∙ min_from_yields_List _ _ c.min.ensures.ran (YieldsList-from_copied (YieldsList-from_slice c.args.l.now cc)) in
    c.unwrap_or.ensures ∙ ap (λ (o : Option ℕ). unwrap_or o 0) r ∙ smallest-is c.args.l.now
