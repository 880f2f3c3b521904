-- The games at team i's venue against its guests. Assumes nothing.
use mathlib.Core.Path.{ap, ◌∙◌}
use Prim.Native.Nat.{ℕ}
use Rattle.robinx.specs.Timetable.{home_side, games_against}
use Rattle.tables.specs.Tables.{x_of}
use Rattle.opponents.specs.Sides.{code_of}
use Rattle.opponents.proofs.Checkable.{limits}
use Rattle.between.proofs.Between.{guests-lt, hosts-against}
use Rattle.between.proofs.Meetings.hosted.Goals as goal

pub against-requires : goal.against-requires
against-requires c =
    let m = c.args.self in
    let l = limits m.check.now.checkable in
    (c.requires, rw c.guests.ensures (guests-lt m.check.now.sizes.teams (code_of m.sides) m.check.now.constraint.t1 m.check.now.constraint.t2 c.args.i l.t1 l.t2))

pub returns : goal.returns
returns c k l =
    let m = c.args.self in
    let n = m.check.now.sizes.teams in
    let x = x_of m.check.now.tables.now.meets in
    c.against.ensures k l
    ∙ ap (λ (T : ℕ). games_against n x home_side T c.args.i k) c.guests.ensures
    ∙ hosts-against n x (code_of m.sides) m.check.now.constraint.t1 m.check.now.constraint.t2 c.args.i k
