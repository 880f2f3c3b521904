-- A constraint's penalty: its weight times one of five functions of its deviations (RobinX, formulas (1) to (5)).
use Rattle.std.specs.Prelude.{List, [], ◌∷◌, cond, ℕ, ◌+◌, ◌*◌, max, min, eqb}
use Rattle.robinx.specs.declared.Constraint.{Constraint}
use Rattle.robinx.specs.declared.function.Function.{Function}
use Rattle.robinx.specs.declared.function.Function.TheVariants.{Sum, SquareOfSum, SumOfSquares, Smallest, Largest}

unfoldable pub sum : List ℕ → ℕ
sum [] = 0
sum (d ∷ l) = d + sum l

unfoldable pub sum_of_squares : List ℕ → ℕ
sum_of_squares [] = 0
sum_of_squares (d ∷ l) = d * d + sum_of_squares l

unfoldable pub largest : List ℕ → ℕ
largest [] = 0
largest (d ∷ l) = max d (largest l)

-- the smallest, of a list with a first element
unfoldable pub smallest : List ℕ → ℕ
smallest [] = 0
smallest (d ∷ []) = d
smallest (d ∷ (e ∷ l)) = min d (smallest (e ∷ l))

-- the number of each function, as a constraint's byte has it (FORMAT 2)
abbrev pub function_number : Function → ℕ
function_number Sum = 1
function_number SquareOfSum = 2
function_number SumOfSquares = 3
function_number Smallest = 4
function_number Largest = 5

-- functions 1 to 5: sum, square of the sum, sum of squares, smallest, largest
unfoldable pub combine : ℕ → List ℕ → ℕ
combine f l =
    cond (eqb f 1) (sum l)
    (cond (eqb f 2) (sum l * sum l)
    (cond (eqb f 3) (sum_of_squares l)
    (cond (eqb f 4) (smallest l) (largest l))))

unfoldable pub penalty : Constraint → List ℕ → ℕ
penalty c l = c.weight * combine c.function l
