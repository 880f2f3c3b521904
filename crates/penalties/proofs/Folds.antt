-- The penalty's functions in std's words, in which a chain over the deviations is proved. Assumes nothing.
use Rattle.std.proofs.Common.{◌≡◌, ℕ, ◌*◌, max, min, List, [], ◌∷◌, refl, arith}
use Rattle.std.specs.List.{sum_by, fold, reduce}
use Rattle.std.specs.Option.{unwrap_or}
use Rattle.std.proofs.lemmas.List.Recursion.{is_sum_by}
use Rattle.robinx.specs.Penalty.{sum, sum_of_squares, largest, smallest}

pub sum-is : (l : List ℕ) → sum l ≡ sum_by (λ d. d) l
unfolding sum
sum-is = is_sum_by sum (λ d. d) refl (λ d l. refl)

pub squares-is : (l : List ℕ) → sum_of_squares l ≡ sum_by (λ d. d * d) l
unfolding sum_of_squares
squares-is = is_sum_by sum_of_squares (λ d. d * d) refl (λ d l. refl)

pub ruleset sums = (sum-is, squares-is)

-- the largest and the smallest of a list behind d
fold-largest : (d : ℕ) (l : List ℕ) → fold max d l ≡ max d (largest l)
unfolding largest
fold-largest d [] = omega arith
fold-largest d (e ∷ l) = omega (arith, fold-largest (max d e) l)

pub largest-is : (l : List ℕ) → unwrap_or (reduce max l) 0 ≡ largest l
unfolding largest
largest-is [] = refl
largest-is (d ∷ l) = fold-largest d l

fold-smallest : (d : ℕ) (l : List ℕ) → fold min d l ≡ smallest (d ∷ l)
unfolding smallest
fold-smallest d [] = refl
fold-smallest d (e ∷ []) = refl
fold-smallest d (e ∷ (f ∷ l)) = omega (arith, fold-smallest (min d e) (f ∷ l))

pub smallest-is : (l : List ℕ) → unwrap_or (reduce min l) 0 ≡ smallest l
unfolding smallest
smallest-is [] = refl
smallest-is (d ∷ l) = fold-smallest d l
