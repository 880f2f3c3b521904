-- The cases of FORMAT 7.6: the slots between two games of a pair, on openings and on kept books, by computation.
use mathlib.Core.Path.{◌≡◌, refl}
use mathlib.Core.List.{List, [], ◌∷◌, ◌++◌}
use Prim.Native.Nat.{ℕ}
use lib.IntN.{pos, negsuc}
use lib.ListN.{replicate}
use Rattle.robinx.specs.Calls.{buffers, Buffers, outcome, accepted, set_call, exchange_call}
use Rattle.robinx.proofs.All.{all}
use Rattle.robinx.proofs.SeasonA.{head, body}
use Rattle.robinx.proofs.Cases.{open_with, sizes, deviations_under}

-- Four teams, three slots. Teams 0 and 1 meet twice (games 0 and 1), teams 2 and 3 once (game 2). SE1 on teams 0 and 1 with the width w.
abbrev return_game : ℕ → List ℕ
return_game w = sizes 4 3 3 1 ++ 0 ∷ 1 ∷ 2 ∷ 1 ∷ 0 ∷ 3 ∷ [] ++ head 51 1 0 1 1 0 0 w ++ body 3 0 0

-- two teams that meet eight times in 64 slots, under SE1 with the width w and the weight 255
abbrev eight_times : ℕ → ℕ → List ℕ
eight_times function w = sizes 2 64 8 1 ++ replicate 8 0 ++ replicate 8 1 ++ head 51 1 0 function 255 0 0 w ++ body 3 0 0

-- the deviation where the two games are in slots a and b
abbrev in_slots : ℕ → ℕ → ℕ → List ℕ
in_slots w a b = deviations_under (return_game w) (a ∷ b ∷ 0 ∷ []) 1

slots-between
    -- slots 1 and 3, one slot between: w 1, 2, 3; the later game first on the sheet
    : (in_slots 1 1 3 ≡ 0 ∷ [])
    × (in_slots 2 1 3 ≡ 1 ∷ [])
    × (in_slots 3 1 3 ≡ 2 ∷ [])
    × (in_slots 2 3 1 ≡ 1 ∷ [])
    -- next to each other
    × (in_slots 1 1 2 ≡ 1 ∷ [])
    × (in_slots 2 1 2 ≡ 2 ∷ [])
    × (in_slots 3 1 2 ≡ 3 ∷ [])
    × (in_slots 2 2 3 ≡ 2 ∷ [])
    -- one game, or none
    × (in_slots 255 1 0 ≡ 0 ∷ [])
    × (in_slots 255 0 3 ≡ 0 ∷ [])
    × (in_slots 255 0 0 ≡ 0 ∷ [])
unfolding all
slots-between = (refl, refl, refl, refl, refl, refl, refl, refl, refl, refl, refl)

-- the games in slots 1, b and c, and the books that say d for the pair
abbrev books : ℕ → ℕ → ℕ → Buffers
books b c d = buffers (1 ∷ b ∷ c ∷ []) (d ∷ []) (d ∷ 0 ∷ d ∷ [])

-- The return game comes next to the first one by a set and by an exchange, and goes back. The kept books are those of a fresh opening each time.
brought-next-to-each-other
    -- w 2, the third game unplaced
    : (open_with (return_game 2) (1 ∷ 3 ∷ 0 ∷ []) 1 3 ≡ outcome (accepted 1 (pos 0) (pos 1)) (books 3 0 1))
    × (set_call (return_game 2) (books 3 0 1) 1 2 ≡ outcome (accepted 1 (pos 0) (pos 1)) (books 2 0 2))
    × (open_with (return_game 2) (1 ∷ 2 ∷ 0 ∷ []) 1 3 ≡ outcome (accepted 1 (pos 0) (pos 2)) (books 2 0 2))
    × (set_call (return_game 2) (books 2 0 2) 1 3 ≡ outcome (accepted 1 (pos 0) (negsuc 0)) (books 3 0 1))
    -- w 1, the third game in slot 2
    × (open_with (return_game 1) (1 ∷ 3 ∷ 2 ∷ []) 1 3 ≡ outcome (accepted 0 (pos 0) (pos 0)) (books 3 2 0))
    × (exchange_call (return_game 1) (books 3 2 0) 1 2 ≡ outcome (accepted 0 (pos 0) (pos 1)) (books 2 3 1))
    × (open_with (return_game 1) (1 ∷ 2 ∷ 3 ∷ []) 1 3 ≡ outcome (accepted 0 (pos 0) (pos 1)) (books 2 3 1))
unfolding all
brought-next-to-each-other = (refl, refl, refl, refl, refl, refl, refl)

-- the books of an opening with these eight slots
abbrev eight : ℕ → ℕ → List ℕ → Buffers
eight function w sheet = (open_with (eight_times function w) sheet 1 3).left

limits
    -- eight games in a row: 7 · 255; the square of that, with the weight 255
    : ((eight 1 255 (1 ∷ 2 ∷ 3 ∷ 4 ∷ 5 ∷ 6 ∷ 7 ∷ 8 ∷ [])).ledger ≡ 1785 ∷ [])
    × ((eight 2 255 (1 ∷ 2 ∷ 3 ∷ 4 ∷ 5 ∷ 6 ∷ 7 ∷ 8 ∷ [])).tally ≡ 812487375 ∷ 0 ∷ 812487375 ∷ [])
    -- eight slots between each two: 7 · (255 − 8); none is missing with w 8
    × ((eight 1 255 (1 ∷ 10 ∷ 19 ∷ 28 ∷ 37 ∷ 46 ∷ 55 ∷ 64 ∷ [])).ledger ≡ 1729 ∷ [])
    × ((eight 1 8 (1 ∷ 10 ∷ 19 ∷ 28 ∷ 37 ∷ 46 ∷ 55 ∷ 64 ∷ [])).ledger ≡ 0 ∷ [])
    -- the first slot and the last: 62 between them
    × ((eight 1 255 (64 ∷ 1 ∷ 0 ∷ 0 ∷ 0 ∷ 0 ∷ 0 ∷ 0 ∷ [])).ledger ≡ 193 ∷ [])
    × ((eight 1 63 (64 ∷ 1 ∷ 0 ∷ 0 ∷ 0 ∷ 0 ∷ 0 ∷ 0 ∷ [])).ledger ≡ 1 ∷ [])
    × ((eight 1 62 (64 ∷ 1 ∷ 0 ∷ 0 ∷ 0 ∷ 0 ∷ 0 ∷ 0 ∷ [])).ledger ≡ 0 ∷ [])
unfolding all
limits = (refl, refl, refl, refl, refl, refl, refl)
