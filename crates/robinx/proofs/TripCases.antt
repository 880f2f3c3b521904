-- The cases of FORMAT 7.5 and more of BR4 and CA5, on one small season, by computation.
use mathlib.Core.Path.{◌≡◌, refl}
use mathlib.Core.List.{List, [], ◌∷◌, ◌++◌}
use Prim.Native.Nat.{ℕ}
use lib.IntN.{pos, negsuc}
use Rattle.robinx.specs.Calls.{buffers, outcome, accepted, set_call}
use Rattle.robinx.proofs.All.{all}
use Rattle.robinx.proofs.SeasonA.{head, body}
use Rattle.robinx.proofs.Cases.{open_with, sizes, deviations_under}

-- Seven slots; team 0 is away to teams 1, 2, 3 and 1 (games 0 to 3) and at home to teams 1 and 2 (games 4 and 5). One soft constraint of mode 2.
abbrev roads : ℕ → ℕ → ℕ → ℕ → ℕ → ℕ → List ℕ
roads kind kmin kmax T1 T2 S =
    sizes 4 7 6 1
    ++ 1 ∷ 2 ∷ 3 ∷ 1 ∷ 0 ∷ 0 ∷ 0 ∷ 0 ∷ 0 ∷ 0 ∷ 1 ∷ 2 ∷ []
    ++ head kind 2 0 1 1 kmin kmax 0
    ++ body T1 T2 S

-- the slots of the six games
abbrev at : ℕ → ℕ → ℕ → ℕ → ℕ → ℕ → List ℕ
at a b c d e f = a ∷ b ∷ c ∷ d ∷ e ∷ f ∷ []

-- the deviation of team 0 under BR4 with kmin 2: 2 less its trips
abbrev missing : ℕ → List ℕ → List ℕ
missing S sheet = deviations_under (roads 34 2 0 1 0 S) sheet 1

-- .. and under CA5
abbrev packed : ℕ → ℕ → ℕ → ℕ → List ℕ → List ℕ
packed kmin kmax T2 S sheet = deviations_under (roads 15 kmin kmax 1 T2 S) sheet 1

br4
    -- away in 1 and 3, at home in 5: a trip over the bye in slot 2
    : (missing 127 (at 1 3 0 0 5 0) ≡ 1 ∷ [])
    -- a single away game; two with a home game between them
    × (missing 127 (at 1 0 0 0 2 0) ≡ 2 ∷ [])
    × (missing 127 (at 1 3 0 0 2 0) ≡ 2 ∷ [])
    -- three games are one trip
    × (missing 127 (at 1 2 3 0 4 0) ≡ 1 ∷ [])
    -- away in 1 and 3, S of slots 1 and 2, of 2 and 3, of 1 and 3; away in 1, 2 and 3, S of slots 1 and 3
    × (missing 3 (at 1 3 0 0 5 0) ≡ 2 ∷ [])
    × (missing 6 (at 1 3 0 0 5 0) ≡ 2 ∷ [])
    × (missing 5 (at 1 3 0 0 5 0) ≡ 1 ∷ [])
    × (missing 5 (at 1 2 3 0 4 0) ≡ 1 ∷ [])
    -- two trips; with the home game off the sheet they are one
    × (missing 127 (at 1 2 6 7 4 0) ≡ 0 ∷ [])
    × (missing 127 (at 1 2 6 7 0 0) ≡ 1 ∷ [])
    -- no game at all, for one team and for all
    × (missing 127 (at 0 0 0 0 0 0) ≡ 2 ∷ [])
    × (deviations_under (roads 34 255 0 15 0 127) (at 0 0 0 0 0 0) 4 ≡ 255 ∷ 255 ∷ 255 ∷ 255 ∷ [])
    -- team 1 is at home twice in a row, which is no trip
    × (deviations_under (roads 34 1 0 2 0 127) (at 1 0 0 2 0 0) 1 ≡ 1 ∷ [])
unfolding all
br4 = (refl, refl, refl, refl, refl, refl, refl, refl, refl, refl, refl, refl, refl)

ca5
    -- trips in 1 and 2 to teams 1 and 2, in 6 and 7 to teams 3 and 1: games against teams 1 and 2, at most 1; exactly 2; against team 3, exactly 1
    : (packed 0 1 6 127 (at 1 2 6 7 4 0) ≡ 1 ∷ [])
    × (packed 2 2 6 127 (at 1 2 6 7 4 0) ≡ 1 ∷ [])
    × (packed 1 1 8 127 (at 1 2 6 7 4 0) ≡ 1 ∷ [])
    -- the trips are short of games by 1 and 2; each has 2 too many
    × (packed 3 9 6 127 (at 1 2 6 7 4 0) ≡ 3 ∷ [])
    × (packed 0 0 14 127 (at 1 2 6 7 4 0) ≡ 4 ∷ [])
    -- only the first trip is in S
    × (packed 0 0 14 3 (at 1 2 6 7 4 0) ≡ 2 ∷ [])
    -- the game of slot 2, which is not in S, counts
    × (packed 0 0 4 5 (at 1 2 3 0 4 0) ≡ 1 ∷ [])
    -- no trip, no deviation, whatever kmin is
    × (packed 5 9 14 127 (at 1 0 0 0 2 0) ≡ 0 ∷ [])
unfolding all
ca5 = (refl, refl, refl, refl, refl, refl, refl, refl)

-- S ends with slot 2. Team 0 is away in 1 and 2; then game 2, away too, comes into slot 5, after S: the trip ends there and counts no more.
-- The kept books are those of a fresh opening, before and after.
abbrev first : List ℕ
first = at 1 2 0 0 0 0

abbrev longer : List ℕ
longer = at 1 2 5 0 0 0

lengthened-out-of-S
    : ((open_with (roads 34 1 0 1 0 3) first 1 3).left ≡ buffers first (0 ∷ []) (0 ∷ 0 ∷ 0 ∷ []))
    × (set_call (roads 34 1 0 1 0 3) (buffers first (0 ∷ []) (0 ∷ 0 ∷ 0 ∷ [])) 2 5
    ≡ outcome (accepted 1 (pos 0) (pos 1)) (buffers longer (1 ∷ []) (1 ∷ 0 ∷ 1 ∷ [])))
    × ((open_with (roads 34 1 0 1 0 3) longer 1 3).left ≡ buffers longer (1 ∷ []) (1 ∷ 0 ∷ 1 ∷ []))
    -- CA5, three games against all teams
    × ((open_with (roads 15 3 9 1 14 3) first 1 3).left ≡ buffers first (1 ∷ []) (1 ∷ 0 ∷ 1 ∷ []))
    × (set_call (roads 15 3 9 1 14 3) (buffers first (1 ∷ []) (1 ∷ 0 ∷ 1 ∷ [])) 2 5
    ≡ outcome (accepted 1 (pos 0) (negsuc 0)) (buffers longer (0 ∷ []) (0 ∷ 0 ∷ 0 ∷ [])))
    × ((open_with (roads 15 3 9 1 14 3) longer 1 3).left ≡ buffers longer (0 ∷ []) (0 ∷ 0 ∷ 0 ∷ []))
unfolding all
lengthened-out-of-S = (refl, refl, refl, refl, refl, refl)
