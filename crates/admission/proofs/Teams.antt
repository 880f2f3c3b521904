-- The teams of a sound season's games, for its own number of teams and for any larger one.
use mathlib.Core.Path.{◌≡◌, sym, ◌∙◌}
use Prim.Native.Nat.{ℕ, ◌≤◌}
use native.Mathlib.Omega.{arith}
use lib.ListN.{length}
use Rattle.robinx.specs.Season.{Instance, most_teams}
use Rattle.robinx.proofs.Limits.{Sound}
use Rattle.timetable.specs.OfSheet.{Teams}

pub season-teams : {m : Instance} {n : ℕ} → Sound m → length m.home ≡ m.G → length m.away ≡ m.G → m.n ≤ n → n ≤ most_teams
    → Teams n m.home m.away
season-teams ok homes aways least few = record {
  few = few;
  aways-length = aways ∙ sym homes;
  home-below = λ g l. omega (arith, (ok.game g (rw homes at l)).home);
  away-below = λ g l. omega (arith, (ok.game g (rw homes at l)).away);
  differ = λ g l. (ok.game g (rw homes at l)).differ;
}
