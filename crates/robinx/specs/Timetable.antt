-- The timetable x of RobinX, section 2, and what its constraints are written with. x is all that a deviation sees of a sheet.
-- Slots count from 0 here; slot 0 of the sheet, unplaced, is none of them.
use Rattle.std.specs.Prelude.{List, Bool, false, ◌&&◌, ◌||◌, not, cond, ℕ, zero, suc, ◌+◌, ◌-◌, ◌%◌, eqb, leb, ltb, length, get_or}
use Rattle.robinx.specs.Sums.{sum_to, only, any_to}
use Rattle.robinx.specs.Groups.{has}

-- x i j k: how many games i hosts against j in slot k
abbrev pub X : Type 0
X = ℕ → ℕ → ℕ → ℕ

-- game g is i at home against j in slot k
unfoldable pub is_at : List ℕ → List ℕ → List ℕ → ℕ → ℕ → ℕ → ℕ → Bool
is_at home away sheet i j k g = eqb (get_or home g 0) i && eqb (get_or away g 0) j && eqb (get_or sheet g 0) (suc k)

unfoldable pub meetings : List ℕ → List ℕ → List ℕ → X
meetings home away sheet i j k = sum_to (λ g. only (is_at home away sheet i j k g) 1) (length home)

-- Sides: a group of home (member 0) and away (member 1). A mode names sides (FORMAT 3.1): home, away or both,
-- for modes 1 to 3 and again for 4 to 6.
abbrev pub side : ℕ → ℕ
side mode = (mode - 1) % 3 + 1

abbrev pub home_side : ℕ
home_side = 1

abbrev pub away_side : ℕ
away_side = 2

abbrev pub any_side : ℕ
any_side = 3

-- modes 1 to 3, as against 4 to 6
abbrev pub first_modes : ℕ → Bool
first_modes mode = leb mode 3

-- games of the sides d that team t has against j in slot k
unfoldable pub games_with : X → ℕ → ℕ → ℕ → ℕ → ℕ
games_with x d t j k = only (has d 0) (x t j k) + only (has d 1) (x j t k)

-- .. against any team
unfoldable pub games_in : ℕ → X → ℕ → ℕ → ℕ → ℕ
games_in n x d t k = sum_to (λ j. games_with x d t j k) n

-- .. against the group T
unfoldable pub games_against : ℕ → X → ℕ → ℕ → ℕ → ℕ → ℕ
games_against n x d T t k = sum_to (λ j. only (has T j) (games_with x d t j k)) n

-- .. against the group T in the first s slots
unfoldable pub games_up_to : ℕ → X → ℕ → ℕ → ℕ → ℕ → ℕ
games_up_to n x d T t s = sum_to (λ k. games_against n x d T t k) s

-- a game of i at home against j has a T1 team on one of the sides d and a T2 team on the other
unfoldable pub between : ℕ → ℕ → ℕ → ℕ → ℕ → Bool
between d T1 T2 i j = has d 0 && (has T1 i && has T2 j) || has d 1 && (has T1 j && has T2 i)

-- such games in slot k, each counted once
unfoldable pub games_between : ℕ → X → ℕ → ℕ → ℕ → ℕ → ℕ
games_between n x d T1 T2 k = sum_to (λ i. sum_to (λ j. only (between d T1 T2 i j) (x i j k)) n) n

-- team t plays in slot k on one of the sides d
unfoldable pub plays : ℕ → X → ℕ → ℕ → ℕ → Bool
plays n x d t k = ltb 0 (games_in n x d t k)

-- the last of the first k slots in which there is a game was on the side; slots without a game (byes) are skipped
unfoldable pub last_was : (ℕ → Bool) → (ℕ → Bool) → ℕ → Bool
last_was game on_side zero = false
last_was game on_side (suc k) = cond (game k) (on_side k) (last_was game on_side k)

-- a break of the side d: t plays on it in slot k, and did so in its last game before (FORMAT 3.2)
unfoldable pub break_on : ℕ → X → ℕ → ℕ → ℕ → Bool
break_on n x d t k = plays n x d t k && last_was (plays n x any_side t) (plays n x d t) k

-- breaks of the sides d that t has in slot k
unfoldable pub breaks_in : ℕ → X → ℕ → ℕ → ℕ → ℕ
breaks_in n x d t k = only (has d 0 && break_on n x home_side t k) 1 + only (has d 1 && break_on n x away_side t k) 1

-- Trips (FORMAT 3.2; RobinX, BR4 and CA5) of a team that plays away in the slots of one test and at home in those of the other: runs of away
-- games, slots without a game skipped. One starts in slot a: the team plays away there, and did not in its last game before.
unfoldable pub starts_trip : (ℕ → Bool) → (ℕ → Bool) → ℕ → Bool
starts_trip away home a = away a && not (last_was (λ k. away k || home k) away a)

-- slot k is one of the run that starts in a: an away game, and no home game from a to it
unfoldable pub on_trip : (ℕ → Bool) → (ℕ → Bool) → ℕ → ℕ → Bool
on_trip away home a k = leb a k && away k && not (any_to (λ i. leb a i && home i) (suc k))

-- the sum of f over its slots
unfoldable pub along_trip : (ℕ → Bool) → (ℕ → Bool) → ℕ → ℕ → (ℕ → ℕ) → ℕ
along_trip away home P a f = sum_to (λ k. only (on_trip away home a k) (f k)) P

-- the run is a trip that counts: it has two games or more, and its first and its last slot are in S
unfoldable pub trip_counts : (ℕ → Bool) → (ℕ → Bool) → ℕ → ℕ → ℕ → Bool
trip_counts away home P S a =
    starts_trip away home a && has S a && leb 2 (along_trip away home P a (λ k. 1)) && last_was (on_trip away home a) (has S) P

-- the sum of f over the trips that count, by their first slots
unfoldable pub over_trips : (ℕ → Bool) → (ℕ → Bool) → ℕ → ℕ → (ℕ → ℕ) → ℕ
over_trips away home P S f = sum_to (λ a. only (trip_counts away home P S a) (f a)) P

-- teams i and j meet in slot k
unfoldable pub meet : X → ℕ → ℕ → ℕ → Bool
meet x i j k = ltb 0 (x i j k + x j i k)

-- the last of the first k slots that passes the test, counted from 1; 0: there is none
unfoldable pub last_slot : (ℕ → Bool) → ℕ → ℕ
last_slot game zero = 0
last_slot game (suc k) = cond (game k) (suc k) (last_slot game k)

-- Sentences 8 and 13: two games that share a team have one slot other than 0.
abbrev pub share_team : List ℕ → List ℕ → ℕ → ℕ → Bool
share_team home away g h =
    eqb (get_or home g 0) (get_or home h 0)
    || eqb (get_or home g 0) (get_or away h 0)
    || eqb (get_or away g 0) (get_or home h 0)
    || eqb (get_or away g 0) (get_or away h 0)

unfoldable pub collide : List ℕ → List ℕ → List ℕ → ℕ → ℕ → Bool
collide home away sheet g h =
    not (eqb (get_or sheet g 0) 0) && eqb (get_or sheet g 0) (get_or sheet h 0) && share_team home away g h

unfoldable pub clash : List ℕ → List ℕ → List ℕ → Bool
clash home away sheet = any_to (λ g. any_to (λ h. collide home away sheet g h) g) (length home)
