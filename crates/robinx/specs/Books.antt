-- The fresh books of a sheet (demand 2): every deviation, penalty and total worked out from it, and the verdict.
use Rattle.std.specs.Prelude.{List, [], ◌∷◌, ◌++◌, Bool, cond, not, ℕ, eqb, ltb, get_or}
use Rattle.robinx.specs.Sums.{sum_to, cat_to, list_to, any_to, only}
use Rattle.robinx.specs.Season.{Instance}
use Rattle.robinx.specs.Timetable.{X, meetings}
use Rattle.robinx.specs.Deviations.{deviations, entries}
use Rattle.robinx.specs.Penalty.{penalty}
use Rattle.robinx.specs.declared.Constraint.{Constraint}

-- the timetable of a sheet
abbrev pub timetable : Instance → List ℕ → X
timetable m sheet = meetings m.home m.away sheet

-- Of constraint number c: its deviations, its penalty, how many deviations it has, and where they begin in the ledger.
abbrev pub deviations_at : Instance → X → ℕ → List ℕ
deviations_at m x c = deviations m.n m.P (m.constraint c) x

abbrev pub penalty_at : Instance → X → ℕ → ℕ
penalty_at m x c = penalty (m.constraint c) (deviations_at m x c)

abbrev pub entries_at : Instance → ℕ → ℕ
entries_at m c = entries m.n m.P (m.constraint c)

unfoldable pub start_at : Instance → ℕ → ℕ
start_at m c = sum_to (entries_at m) c

-- E, the number of deviations
abbrev pub all_entries : Instance → ℕ
all_entries m = start_at m m.C

-- Hard and soft are one definition over a test of constraints.
abbrev pub is_hard : Constraint → Bool
is_hard c = eqb c.hard 1

abbrev pub is_soft : Constraint → Bool
is_soft c = not (eqb c.hard 1)

-- the sum of the penalties of the wanted constraints: infeasibility of the hard ones, objective of the soft ones
unfoldable pub total : (Constraint → Bool) → Instance → X → ℕ
total want m x = sum_to (λ c. only (want (m.constraint c)) (penalty_at m x c)) m.C

-- the deviations, one constraint after the other
unfoldable pub fresh_ledger : Instance → List ℕ → List ℕ
fresh_ledger m sheet = cat_to (deviations_at m (timetable m sheet)) m.C

-- the penalties, then the two totals
unfoldable pub fresh_tally : Instance → List ℕ → List ℕ
fresh_tally m sheet =
    list_to (penalty_at m (timetable m sheet)) m.C
    ++ total is_hard m (timetable m sheet) ∷ total is_soft m (timetable m sheet) ∷ []

-- 1: a game has no slot; else 2: a hard constraint is broken, as the total has it; else 0, feasible
unfoldable pub verdict : Instance → List ℕ → ℕ → ℕ
verdict m sheet infeasibility =
    cond (any_to (λ g. eqb (get_or sheet g 0) 0) m.G) 1 (cond (ltb 0 infeasibility) 2 0)
