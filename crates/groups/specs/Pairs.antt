-- The number of pairs of a group's members, counted by its set bits. It is `pairs` of robinx where the group names only teams below n.
use Rattle.std.specs.Prelude.{ℕ, ◌-◌, ◌*◌, ◌/◌}
use Rattle.std.specs.Int.Count.{ones}

-- k members make (k² − k) / 2 pairs
unfoldable pub pairs_in : ℕ → ℕ
pairs_in T = (ones T * ones T - ones T) / 2
