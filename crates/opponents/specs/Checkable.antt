-- What the deviations of a constraint are worked out from: one that keeps the rules, and tables that are tied.
use Rattle.std.specs.Prelude.{◌≡◌, true, ℕ, ◌^◌, ◌<◌, ◌≤◌}
use Rattle.robinx.specs.Season.{most_teams, most_slots}
use Rattle.robinx.specs.Rules.{obeys}
use Rattle.robinx.specs.declared.Constraint.{Constraint}
use Rattle.tables.specs.declared.Tables.{Tables}
use Rattle.tables.specs.Tables.{Tied}

pub record Checkable (n P : ℕ) (c : Constraint) (t : Tables) : Type 0 where
  pub teams : n ≤ most_teams
  pub slots : P ≤ most_slots
  pub rules : obeys n P c ≡ true
  pub tied : Tied n t

-- the tables are tied, and the group has no teams but the n
pub record TiedGroup (n T : ℕ) (t : Tables) : Type 0 where
  pub teams : n ≤ most_teams
  pub group : T < 2 ^ n
  pub tied : Tied n t
