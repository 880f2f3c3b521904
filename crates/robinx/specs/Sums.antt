-- Sums, largest values, lists and tests over 0 .. n − 1, each growing at its end.
use Rattle.std.specs.Prelude.{List, [], ◌∷◌, ◌++◌, Bool, true, false, ◌||◌, ℕ, zero, suc, ◌+◌, ◌-◌, max}

-- v if the test holds, else 0
abbrev pub only : Bool → ℕ → ℕ
only true v = v
only false v = 0

-- the list if the test holds, else the empty one
abbrev pub only_l : Bool → List ℕ → List ℕ
only_l true l = l
only_l false l = []

-- f 0 + .. + f (n − 1)
unfoldable pub sum_to : (ℕ → ℕ) → ℕ → ℕ
sum_to f zero = 0
sum_to f (suc k) = sum_to f k + f k

-- the largest of 0, f 0, .., f (n − 1)
unfoldable pub max_to : (ℕ → ℕ) → ℕ → ℕ
max_to f zero = 0
max_to f (suc k) = max (max_to f k) (f k)

-- f 0 ++ .. ++ f (n − 1)
unfoldable pub cat_to : (ℕ → List ℕ) → ℕ → List ℕ
cat_to f zero = []
cat_to f (suc k) = cat_to f k ++ f k

-- the list of f 0, .., f (n − 1)
abbrev pub list_to : (ℕ → ℕ) → ℕ → List ℕ
list_to f n = cat_to (λ k. f k ∷ []) n

-- some number below n passes the test
unfoldable pub any_to : (ℕ → Bool) → ℕ → Bool
any_to p zero = false
any_to p (suc k) = any_to p k || p k

-- |a − b|
abbrev pub dist : ℕ → ℕ → ℕ
dist a b = (a - b) + (b - a)
