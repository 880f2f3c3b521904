-- Each place was made by its own call. Assumes nothing.
use Rattle.std.proofs.Common.{rules}
use Rattle.robinx.specs.Season.{most_slots}
use Rattle.rows.specs.Rows.{marked}
use Rattle.rows.proofs.Rows.{made}
use Rattle.rows.proofs.spread.Goals as goal

pub returns : goal.returns
returns c = made _ _ (marked c.args.s) (λ i y q z. search rules) c.from_fn.result most_slots c.from_fn.ensures.items
