-- No move touches a constraint that is passed over. Assumes nothing.
use mathlib.Core.Path.{◌≡◌, ap, ◌∙◌}
use borrow.Author.Rules.{rules}
use Rattle.robinx.specs.Kinds.{form_of, form_at}
use Rattle.touch.proofs.Asked.{by_row_lem, by_row_too_lem, not-touched, not-touched-too}
use Rattle.walk.proofs.Touch.touches.Goals as goal
use Rattle.walk.proofs.Touch.touches.Goals.{After-passed_over}

row : (c : After-passed_over) → c.form_of-form.result ≡ form_at c.args.c.kind
unfolding form_at
row c = c.form_of-form.ensures ∙ ap form_of c.from.ensures

pub returns-then-not-passed_over : goal.returns-then-not-passed_over
returns-then-not-passed_over c =
    let r = row (goal.at.returns-then-not-passed_over c).After-passed_over in
    rw (c.in-By.is, ← by_row_lem c.args.c c.in-By.moves.first r, ← by_row_too_lem c.args.c c.in-By.moves.second r) c.either_touches.ensures

pub returns-else-not-passed_over : goal.returns-else-not-passed_over
returns-else-not-passed_over c =
    let r = row (goal.at.returns-else-not-passed_over c).After-passed_over in
    let none = c.passed_over.ensures c.if-not-passed_over.false in
    rw (
      c.in-By.is,
      not-touched c.args.c c.in-By.moves.first r none c.in-By.moves.first_teams,
      not-touched-too _ c.args.c c.in-By.moves.second r none c.in-By.moves.second_teams,
    )
    (search rules)
