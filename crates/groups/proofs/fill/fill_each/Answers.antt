-- `groups::fill::fill_each` meets its contract: its walk has the members, which are teams. Assumes nothing.
use Rattle.std.proofs.Common.{arith}
use Rattle.robinx.specs.Season.{most_teams}
use Rattle.robinx.proofs.SetBits.{in-below}
use Rattle.groups.proofs.fill.fill_each.Goals as goal

pub fill-requires : goal.fill-requires
fill-requires g c =
    rw c.members.ensures (record {
      room = c.requires.room;
      callable = λ t l h. c.requires.callable t (in-below c.args.group most_teams c.ranges.group.fits t h) h;
    })

pub returns : goal.returns
returns g c n f l = (rw c.members.ensures at c.fill.ensures) n f (omega (arith, l))
