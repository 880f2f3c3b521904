-- The verdict (FORMAT 4.3), and its number by a count u of the unplaced games.
use Rattle.std.specs.Prelude.{cond, ℕ, ltb}
use Rattle.replies.specs.declared.Verdict.{Verdict}
use Rattle.replies.specs.declared.Verdict.TheVariants.{Feasible, Unplaced, Infeasible}

abbrev pub verdict_number : Verdict → ℕ
verdict_number Feasible = 0
verdict_number Unplaced = 1
verdict_number Infeasible = 2

abbrev pub verdict_of : ℕ → ℕ → ℕ
verdict_of u infeasibility = cond (ltb 0 u) 1 (cond (ltb 0 infeasibility) 2 0)
