-- The summary of season A, by computation.
use mathlib.Core.Path.{◌≡◌, refl}
use mathlib.Core.List.{List, [], ◌∷◌, ◌++◌}
use Prim.Native.Nat.{ℕ, ◌-◌, ◌^◌}
use lib.ListN.{length, replicate}
use Rattle.robinx.specs.Season.{decode}
use Rattle.robinx.specs.Summary.{slots_on, summary}
use Rattle.robinx.proofs.All.{all}
use Rattle.robinx.proofs.SeasonA.{A, sheet_a}

-- the words of the first teams, the others' being 0
abbrev first_teams : List ℕ → List ℕ → List ℕ
first_teams home away = home ++ replicate (32 - length home) 0 ++ away ++ replicate (32 - length away) 0

words-of-season-A
    -- team 0 hosts in slots 1 and 3 and is away in 2, and so on
    : (summary (decode A) sheet_a ≡ first_teams (5 ∷ 2 ∷ 1 ∷ 6 ∷ []) (2 ∷ 5 ∷ 6 ∷ 1 ∷ []))
    -- the last slot of 64 is the highest bit
    × (summary (decode (2 ∷ 64 ∷ 1 ∷ 0 ∷ 0 ∷ 0 ∷ 1 ∷ 0 ∷ [])) (64 ∷ []) ≡ first_teams (0 ∷ 2 ^ 63 ∷ []) (2 ^ 63 ∷ []))
unfolding all slots_on summary
words-of-season-A = (refl, refl)
