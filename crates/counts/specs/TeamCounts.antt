-- What CA1, CA2 and CA3 make of a team's games.
use Rattle.std.specs.Prelude.{ℕ, suc, ◌-◌}
use Rattle.robinx.specs.Season.{slots_of}
use Rattle.robinx.specs.Sums.{sum_to}
use Rattle.robinx.specs.Timetable.{X, side, games_against}
use Rattle.robinx.specs.Deviations.{over, outside, in_run}
use Rattle.robinx.specs.declared.Constraint.{Constraint}

-- the games of team t against the group T that count, in slot k
abbrev pub counted : ℕ → ℕ → Constraint → X → ℕ → ℕ → ℕ → ℕ
counted n P c x T t = games_against n x (side c.mode) T t

-- The deviation of team t: of its games against T in S, or of those against T2 in each run of w slots, summed.
abbrev pub off_count : ℕ → ℕ → Constraint → X → ℕ → ℕ → ℕ
off_count n P c x T t = outside c.kmin c.kmax (over P (slots_of c) (counted n P c x T t))

abbrev pub off_runs : ℕ → ℕ → Constraint → X → ℕ → ℕ
off_runs n P c x t = sum_to (λ a. outside c.kmin c.kmax (in_run (counted n P c x c.t2 t) c.w a)) (suc P - c.w)
