-- `rows::mask_runs` meets its contract. Assumes nothing.
use Rattle.std.proofs.Common.{ℕ, List, ◌∷◌, ap, ◌∙◌, append-nil}
use Rattle.robinx.specs.Season.{most_slots}
use Rattle.rows.specs.Rows.{up_to}
use Rattle.rows.proofs.Rows.{list-holds, counts-before, runs_of}
use Rattle.rows.proofs.mask_runs.Goals as goal

-- the row is a 0 and then the counts that were laid
pub returns : goal.returns
returns c =
    let a = c.args in
    let row = ap (λ (r : List ℕ). 0 ∷ r) (append-nil c.lay.new.row ∙ c.lay.ensures) in
    c.runs.ensures
    ∙ runs_of _ a.v a.w a.range.low a.range.high a.n c.requires
    (counts-before a.v row (list-holds (up_to a.v) most_slots))
