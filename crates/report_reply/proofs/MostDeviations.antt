-- The most deviations that the report takes (FORMAT 8), by computation.
use mathlib.Core.Path.{◌≡◌, refl}
use mathlib.Core.List.{List, [], ◌∷◌, ◌++◌}
use Prim.Native.Nat.{ℕ, ◌+◌}
use Rattle.robinx.specs.Sums.{cat_to}
use Rattle.robinx.specs.Report.{report_fault}
use Rattle.robinx.proofs.All.{all}
use Rattle.robinx.proofs.SeasonA.{head}
use Rattle.robinx.proofs.Cases.{sizes}

-- no game, 32 teams and a slot; 12 constraints of 496 deviations, one of 32, one of 16: 6000 in all; k more of one deviation each
abbrev wide : List ℕ
wide = 255 ∷ 255 ∷ 255 ∷ 255 ∷ 0 ∷ 0 ∷ 0 ∷ 0 ∷ 1 ∷ 0 ∷ 0 ∷ 0 ∷ 0 ∷ 0 ∷ 0 ∷ 0 ∷ []

abbrev times : ℕ → List ℕ → List ℕ
times k l = cat_to (λ a. l) k

abbrev deviating : ℕ → List ℕ
deviating k =
    sizes 32 1 0 (14 + k)
    ++ times 12 (head 42 1 0 1 1 0 0 0)
    ++ times 2 (head 31 1 0 1 1 0 0 0)
    ++ times k (head 32 1 0 1 1 0 1 0)
    ++ times 13 wide
    ++ (255 ∷ 255 ∷ 0 ∷ 0 ∷ 0 ∷ 0 ∷ 0 ∷ 0 ∷ 1 ∷ 0 ∷ 0 ∷ 0 ∷ 0 ∷ 0 ∷ 0 ∷ 0 ∷ [])
    ++ times k wide

report-takes-6000 : (report_fault (deviating 0) ≡ 0) × (report_fault (deviating 1) ≡ 6)
unfolding all
report-takes-6000 = (refl, refl)
