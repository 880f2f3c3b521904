-- `opponents::against` meets its contract. Assumes nothing.
use mathlib.Core.Path.{◌≡◌, ◌∙◌}
use borrow.Author.Rules.{rules}
use Rattle.robinx.specs.Sums.{only}
use Rattle.robinx.specs.Groups.{has}
use Rattle.tables.specs.Tables.{hosting, x_of}
use Rattle.opponents.specs.Sides.{code_of}
use Rattle.opponents.proofs.Games.{sides-mask, union-mask, against-all}
use Rattle.opponents.proofs.against.Goals as goal
use Rattle.opponents.proofs.against.Goals.{then-asks_home, else-asks_home, then-asks_away, else-asks_away}

pub returns-then-group-everyone : goal.returns-then-group-everyone
returns-then-group-everyone c k l =
    let a = c.args in
    let everyone = c.if-group-everyone.true ∙ c.everyone.ensures in
    rw (c.played.ensures, against-all a.n (x_of a.tables.now.meets) (code_of a.sides) a.t a.group k everyone)
    (sides-mask c.requires.1.tied (code_of a.sides) a.t c.requires.0 k l)

pub returns : goal.returns
returns c =
    let a = c.args in
    let g = c.requires.1 in
    let d = code_of a.sides in
    let guests : c.if-asks_home.guests ≡ only (has d 0) a.group =
    elim c.if-asks_home.branch [ then-asks_home w ↦ search rules | else-asks_home w ↦ search rules ] in
    let hosts : c.if-asks_away.hosts ≡ only (has d 1) a.group =
    elim c.if-asks_away.branch [ then-asks_away w ↦ search rules | else-asks_away w ↦ search rules ] in
    rw c.union.ensures
    (union-mask g.tied d a.t c.requires.0 a.group c.gather.result c.gather-2.result g.teams g.group
    (rw guests at (c.gather.ensures (λ j. hosting a.tables.now.meets a.t j) (λ j r p. search rules)))
    (rw hosts at (c.gather-2.ensures (λ i. hosting a.tables.now.meets i a.t) (λ i r p. search rules))))
