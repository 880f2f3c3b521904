-- How close the meetings of two teams are (SE1).
use Rattle.std.specs.Prelude.{ℕ}
use Rattle.robinx.specs.Sums.{sum_to}
use Rattle.robinx.specs.Timetable.{X, meet}
use Rattle.robinx.specs.Deviations.{too_close}

-- how many slots fewer than w lie between the meetings of i and j, in the first P slots
abbrev pub closeness : X → ℕ → ℕ → ℕ → ℕ → ℕ
closeness x w P i j = sum_to (too_close (meet x i j) w) P
