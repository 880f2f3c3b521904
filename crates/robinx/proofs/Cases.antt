-- Season A's calls and the other cases of FORMAT 7.3 and 7.4, and cases for slips in other definitions: all by computation.
use mathlib.Core.Path.{◌≡◌, refl}
use mathlib.Core.List.{List, [], ◌∷◌, ◌++◌}
use mathlib.Core.Bool.{true, false}
use Prim.Native.Nat.{ℕ}
use lib.IntN.{pos, negsuc}
use lib.ListN.{replicate, set}
use Rattle.robinx.specs.Penalty.{combine}
use Rattle.robinx.specs.Season.{Instance}
use Rattle.robinx.specs.Books.{all_entries}
use Rattle.robinx.specs.Refusals.{sentence6}
use Rattle.robinx.specs.Report.{report_fault, report_rows}
use Rattle.robinx.specs.Calls.{buffers, Buffers, Outcome, outcome, accepted, declined, open_call, set_call, exchange_call}
use Rattle.robinx.proofs.All.{all}
use Rattle.robinx.proofs.SeasonA.{head, body, games_a, A, sheet_a, ledger_a, tally_a, under}

-- opening with buffers of E and C + 2 items, whatever they hold
abbrev pub open_with : List ℕ → List ℕ → ℕ → ℕ → Outcome
open_with season sheet E T = open_call season (buffers sheet (replicate E 7) (replicate T 7))

abbrev books_a : Buffers
books_a = buffers sheet_a ledger_a tally_a

abbrev set_a : ℕ → ℕ → Outcome
set_a g s = set_call A books_a g s

abbrev exchange_a : ℕ → ℕ → Outcome
exchange_a g h = exchange_call A books_a g h

-- teams, slots, games, constraints: up to 255 each
abbrev pub sizes : ℕ → ℕ → ℕ → ℕ → List ℕ
sizes n P G C = n ∷ P ∷ G ∷ 0 ∷ C ∷ 0 ∷ []

-- two teams that meet twice, under SE1 with the width w
abbrev twice : ℕ → List ℕ
twice w = sizes 2 3 2 1 ++ 0 ∷ 1 ∷ 1 ∷ 0 ∷ [] ++ head 51 1 0 1 1 0 0 w ++ body 3 0 0

-- two teams that meet k times, in as many slots
abbrev meeting : ℕ → List ℕ
meeting k = sizes 2 9 k 0 ++ replicate k 0 ++ replicate k 1

starred
    : (open_with A sheet_a 12 6 ≡ outcome (accepted 2 (pos 10) (pos 8)) books_a)
    -- set game 0 to 0
    × (set_a 0 0 ≡ outcome (accepted 1 (negsuc 9) (pos 0)) (buffers (set sheet_a 0 0) (set ledger_a 0 0) (0 ∷ 5 ∷ 0 ∷ 3 ∷ 0 ∷ 8 ∷ [])))
    -- set 2 to 0: constraint 2 rises from 0 to 4, constraint 3 falls from 3 to 0
    × (set_a 2 0
    ≡ outcome
    (accepted 1 (pos 0) (pos 1))
    (buffers (set sheet_a 2 0)
    (1 ∷ 1 ∷ 1 ∷ 0 ∷ 0 ∷ 0 ∷ 1 ∷ 0 ∷ 0 ∷ 0 ∷ 0 ∷ 0 ∷ [])
    (10 ∷ 5 ∷ 4 ∷ 0 ∷ 10 ∷ 9 ∷ [])))
    -- set 0 to 2, set 0 to 4, exchange 0, 0
    × (set_a 0 2 ≡ outcome (declined 13) books_a)
    × (set_a 0 4 ≡ outcome (declined 10) books_a)
    × (exchange_a 0 0 ≡ outcome (declined 11) books_a)
    -- set 0 to 1: accepted, nothing changes
    × (set_a 0 1 ≡ outcome (accepted 2 (pos 0) (pos 0)) books_a)
    -- deviations 1 0 2 under functions 1 to 5
    × (combine 1 (1 ∷ 0 ∷ 2 ∷ []) ≡ 3)
    × (combine 2 (1 ∷ 0 ∷ 2 ∷ []) ≡ 9)
    × (combine 3 (1 ∷ 0 ∷ 2 ∷ []) ≡ 5)
    × (combine 4 (1 ∷ 0 ∷ 2 ∷ []) ≡ 0)
    × (combine 5 (1 ∷ 0 ∷ 2 ∷ []) ≡ 2)
    -- mutual games in slots 1 and 3: w 3, w 2
    × (open_with (twice 3) (1 ∷ 3 ∷ []) 1 3 ≡ outcome (accepted 0 (pos 0) (pos 2)) (buffers (1 ∷ 3 ∷ []) (2 ∷ []) (2 ∷ 0 ∷ 2 ∷ [])))
    × (open_with (twice 2) (1 ∷ 3 ∷ []) 1 3 ≡ outcome (accepted 0 (pos 0) (pos 1)) (buffers (1 ∷ 3 ∷ []) (1 ∷ []) (1 ∷ 0 ∷ 1 ∷ [])))
    -- G 0, C 0
    × (open_with (sizes 2 1 0 0) [] 0 2 ≡ outcome (accepted 0 (pos 0) (pos 0)) (buffers [] [] (0 ∷ 0 ∷ [])))
    -- n 1; P 64 and 65; 8 and 9 meetings
    × ((open_with (sizes 1 1 0 0) [] 0 2).reply ≡ declined 2)
    × ((open_with (sizes 2 64 0 0) [] 0 2).reply ≡ accepted 0 (pos 0) (pos 0))
    × ((open_with (sizes 2 65 0 0) [] 0 2).reply ≡ declined 2)
    × ((open_with (meeting 8) (1 ∷ 2 ∷ 3 ∷ 4 ∷ 5 ∷ 6 ∷ 7 ∷ 8 ∷ []) 0 2).reply ≡ accepted 0 (pos 0) (pos 0))
    × ((open_with (meeting 9) (1 ∷ 2 ∷ 3 ∷ 4 ∷ 5 ∷ 6 ∷ 7 ∷ 8 ∷ 9 ∷ []) 0 2).reply ≡ declined 4)
unfolding all
starred =
    (refl, refl, refl, refl, refl, refl, refl, refl, refl, refl, refl, refl, refl, refl, refl, refl, refl, refl, refl, refl)

-- the deviations of season A's games under one constraint (kind, mode, kmin, kmax, w, T1, T2, S), of which there are E
abbrev pub deviations_under : List ℕ → List ℕ → ℕ → List ℕ
deviations_under season sheet E = (open_with season sheet E 3).left.ledger

-- BR1 on team 1 in slot 3, kmax 0
abbrev break_at3 : List ℕ
break_at3 = under 31 3 0 0 0 2 0 4

plausible-errors
    -- the break in slot 3 comes when game 2 leaves slot 2, which is not in S
    : (deviations_under break_at3 sheet_a 1 ≡ 0 ∷ [])
    × (set_call break_at3 (buffers sheet_a (0 ∷ []) (0 ∷ 0 ∷ 0 ∷ [])) 2 0
    ≡ outcome (accepted 1 (pos 0) (pos 1)) (buffers (set sheet_a 2 0) (1 ∷ []) (1 ∷ 0 ∷ 1 ∷ [])))
    -- that break is one over a bye: team 1 plays away in slots 1 and 3, and not in slot 2
    × (deviations_under break_at3 (set sheet_a 2 0) 1 ≡ 1 ∷ [])
    -- "any" in CA4 where T1 equals T2: slot 1 has two games, and a game is counted once
    × (deviations_under (under 14 3 0 0 0 15 15 1) sheet_a 1 ≡ 2 ∷ [])
    -- FA1 on teams 0 and 1 after slot 2, kmax 0: of their one meeting each has one side more; against all teams both are level
    × (deviations_under (under 41 1 0 0 0 3 0 2) sheet_a 2 ≡ 1 ∷ 1 ∷ [])
unfolding all
plausible-errors = (refl, refl, refl, refl, refl)

-- 2^64 − 7
abbrev seven-below : ℕ
seven-below = 18446744073709551609

other-slips
    -- GA1 with kmin 3 and two games: max, not the source's min
    : (deviations_under (under 21 1 3 4 0 1 6 7) sheet_a 1 ≡ 1 ∷ [])
    -- CA2, home games of teams 0 and 3 against 1 and 2
    × (deviations_under (under 12 1 0 0 0 9 6 7) sheet_a 2 ≡ 2 ∷ 1 ∷ [])
    -- CA4 of teams 0 and 3 against all, slot by slot: home, away, any
    × (deviations_under (under 14 4 0 0 0 9 15 7) sheet_a 3 ≡ 1 ∷ 1 ∷ 2 ∷ [])
    × (deviations_under (under 14 5 0 0 0 9 15 7) sheet_a 3 ≡ 1 ∷ 1 ∷ 0 ∷ [])
    × (deviations_under (under 14 6 0 0 0 9 15 7) sheet_a 3 ≡ 2 ∷ 1 ∷ 2 ∷ [])
    -- CA3: two runs of two slots, each with 2 games of each team; no run of four slots
    × (deviations_under (under 13 3 0 1 2 15 15 0) sheet_a 4 ≡ 2 ∷ 2 ∷ 2 ∷ 2 ∷ [])
    × (deviations_under (under 13 3 2 3 4 15 15 0) sheet_a 4 ≡ 0 ∷ 0 ∷ 0 ∷ 0 ∷ [])
    -- BR2: two breaks in all; more than 1, other than 5
    × (deviations_under (under 32 3 0 1 0 15 0 7) sheet_a 1 ≡ 1 ∷ [])
    × (deviations_under (under 32 6 0 5 0 15 0 7) sheet_a 1 ≡ 3 ∷ [])
    -- BR1 by side: team 2 has an away break in slot 3, team 3 a home break
    × (deviations_under (under 31 1 0 0 0 15 0 7) sheet_a 4 ≡ 0 ∷ 0 ∷ 0 ∷ 1 ∷ [])
    × (deviations_under (under 31 2 0 0 0 15 0 7) sheet_a 4 ≡ 0 ∷ 0 ∷ 1 ∷ 0 ∷ [])
    -- a home-away swap is an exchange
    × (exchange_call (twice 3) (buffers (1 ∷ 3 ∷ []) (2 ∷ []) (2 ∷ 0 ∷ 2 ∷ [])) 0 1
    ≡ outcome (accepted 0 (pos 0) (pos 0)) (buffers (3 ∷ 1 ∷ []) (2 ∷ []) (2 ∷ 0 ∷ 2 ∷ [])))
    -- a game number not below G, an unplaced game, a clash; a buffer too short, a sheet with a clash
    × ((exchange_a 0 6).reply ≡ declined 9)
    × ((exchange_call A (buffers (set sheet_a 2 0) ledger_a tally_a) 0 2).reply ≡ declined 12)
    × ((exchange_a 0 4).reply ≡ declined 13)
    × ((open_with A sheet_a 11 6).reply ≡ declined 7)
    × ((open_with A (set sheet_a 2 1) 12 6).reply ≡ declined 8)
    -- kmin above kmax
    × ((open_with (under 11 1 2 1 0 1 0 1) sheet_a 1 3).reply ≡ declined 5)
    -- spoilt books: the total is moved modulo 2^64, and the verdict is read from it
    × (set_call A (buffers sheet_a ledger_a (10 ∷ 5 ∷ 0 ∷ 3 ∷ 3 ∷ 8 ∷ [])) 0 0
    ≡ outcome (accepted 1 (negsuc 9) (pos 0)) (buffers (set sheet_a 0 0) (set ledger_a 0 0) (0 ∷ 5 ∷ 0 ∷ 3 ∷ seven-below ∷ 8 ∷ [])))
    × ((set_call A (buffers sheet_a ledger_a (10 ∷ 5 ∷ 0 ∷ 3 ∷ 0 ∷ 8 ∷ [])) 0 1).reply ≡ accepted 0 (pos 0) (pos 0))
unfolding all
other-slips =
    (refl, refl, refl, refl, refl, refl, refl, refl, refl, refl, refl, refl, refl, refl, refl, refl, refl, refl, refl, refl)

-- Season A's printout; its input cut short at the season and at the sheet, and too long
printout
    : (report_rows (A ++ sheet_a) ≡ (2 ∷ 10 ∷ 8 ∷ []) ∷ (0 ∷ 11 ∷ 10 ∷ []) ∷ (1 ∷ 32 ∷ 5 ∷ []) ∷ (3 ∷ 13 ∷ 3 ∷ []) ∷ [])
    × (report_fault (A ++ sheet_a) ≡ 0)
    × (report_fault [] ≡ 1)
    × (report_fault (games_a 4) ≡ 3)
    × (report_fault A ≡ 7)
    × (report_fault (A ++ sheet_a ++ sheet_a) ≡ 7)
unfolding all
printout = (refl, refl, refl, refl, refl, refl)

-- A report takes 6000 deviations, and not one more (FORMAT 6).
most-deviations : (m : Instance) → (all_entries m ≡ 6000 → sentence6 m ≡ false) × (all_entries m ≡ 6001 → sentence6 m ≡ true)
unfolding sentence6
most-deviations m = (λ e. rw e, λ e. rw e)
