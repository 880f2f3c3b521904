-- Season A (FORMAT 7), byte by byte, with its sheet and its books; and seasons that differ from it in their constraints.
use mathlib.Core.List.{List, [], ◌∷◌, ◌++◌}
use Prim.Native.Nat.{ℕ}

abbrev pub head : ℕ → ℕ → ℕ → ℕ → ℕ → ℕ → ℕ → ℕ → List ℕ
head kind mode hard function weight kmin kmax w = kind ∷ mode ∷ hard ∷ function ∷ weight ∷ kmin ∷ kmax ∷ w ∷ []

-- groups whose numbers fit one byte each
abbrev pub body : ℕ → ℕ → ℕ → List ℕ
body T1 T2 S = T1 ∷ 0 ∷ 0 ∷ 0 ∷ T2 ∷ 0 ∷ 0 ∷ 0 ∷ S ∷ 0 ∷ 0 ∷ 0 ∷ 0 ∷ 0 ∷ 0 ∷ 0 ∷ []

-- sizes with C constraints, home teams, away teams
abbrev pub games_a : ℕ → List ℕ
games_a C = 4 ∷ 3 ∷ 6 ∷ 0 ∷ C ∷ 0 ∷ 0 ∷ 2 ∷ 1 ∷ 3 ∷ 0 ∷ 3 ∷ 1 ∷ 3 ∷ 2 ∷ 0 ∷ 2 ∷ 1 ∷ []

abbrev pub A : List ℕ
A =
    games_a 4
    ++ head 11 1 1 1 10 0 0 0
    ++ head 32 3 0 1 5 0 1 0
    ++ head 42 1 0 2 1 0 1 0
    ++ head 13 2 0 3 3 0 1 2
    ++ body 1 0 1
    ++ body 15 0 7
    ++ body 15 0 7
    ++ body 15 15 0

abbrev pub sheet_a : List ℕ
sheet_a = 1 ∷ 1 ∷ 2 ∷ 2 ∷ 3 ∷ 3 ∷ []

-- a stretch a constraint: 1; 1; 0 0 0 0 0 0; 0 0 1 0
abbrev pub ledger_a : List ℕ
ledger_a = 1 ∷ 1 ∷ 0 ∷ 0 ∷ 0 ∷ 0 ∷ 0 ∷ 0 ∷ 0 ∷ 0 ∷ 1 ∷ 0 ∷ []

-- penalties 10, 5, 0, 3; infeasibility 10, objective 8
abbrev pub tally_a : List ℕ
tally_a = 10 ∷ 5 ∷ 0 ∷ 3 ∷ 10 ∷ 8 ∷ []

-- season A's games under one soft constraint of weight 1 and function 1
abbrev pub under : ℕ → ℕ → ℕ → ℕ → ℕ → ℕ → ℕ → ℕ → List ℕ
under kind mode kmin kmax w T1 T2 S = games_a 1 ++ head kind mode 0 1 1 kmin kmax w ++ body T1 T2 S
