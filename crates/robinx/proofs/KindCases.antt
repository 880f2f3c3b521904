-- What each kind asks of its fields and which changes touch it, as tables by computation: one line a kind, one list a column. And cases for
-- slips in the counts and limits that those of season A let pass.
use mathlib.Core.Path.{◌≡◌, refl}
use mathlib.Core.List.{List, [], ◌∷◌, ◌++◌}
use mathlib.Core.Bool.{Bool, ◌&&◌, not}
use Prim.Native.Nat.{ℕ, ◌+◌, ◌*◌}
use lib.Dec.{eqb, leb}
use lib.IntN.{pos}
use lib.ListN.{replicate, set}
use Rattle.robinx.specs.Sums.{cat_to, only_l}
use Rattle.robinx.specs.Touch.{touches}
use Rattle.robinx.specs.Rules.{obeys}
use Rattle.robinx.specs.Calls.{buffers, Outcome, outcome, accepted, declined, set_call}
use Rattle.robinx.specs.declared.Constraint.{Constraint}
use Rattle.robinx.proofs.All.{all}
use Rattle.robinx.proofs.SeasonA.{head, body, sheet_a, under}
use Rattle.robinx.proofs.Cases.{open_with, sizes, deviations_under}

-- a constraint by its fields
abbrev with_fields : ℕ → ℕ → ℕ → ℕ → ℕ → ℕ → ℕ → ℕ → ℕ → ℕ → ℕ → Constraint
with_fields kind mode hard function weight kmin kmax w T1 T2 S = record {
  kind = kind;
  mode = mode;
  hard = hard;
  function = function;
  weight = weight;
  kmin = kmin;
  kmax = kmax;
  w = w;
  t1 = T1;
  t2 = T2;
  s = S;
}

-- the values below n that pass a test
abbrev which : (ℕ → Bool) → ℕ → List ℕ
which p n = cat_to (λ v. only_l (p v) (v ∷ [])) n

-- the values below 8 that a field may have, in a season of two teams and two slots
abbrev allowed : (ℕ → Constraint) → List ℕ
allowed c = which (λ v. obeys 2 2 (c v)) 8

-- of a constraint with this mode, function 1, kmin 0 and these fields, what each of mode, function, kmin, kmax, w, T1, T2 and S may be where
-- the others stay
abbrev columns_in : ℕ → ℕ → ℕ → ℕ → ℕ → ℕ → ℕ → List (List ℕ)
columns_in mode kind kmax w T1 T2 S =
    allowed (λ v. with_fields kind v 0 1 1 0 kmax w T1 T2 S)
    ∷ allowed (λ v. with_fields kind mode 0 v 1 0 kmax w T1 T2 S)
    ∷ allowed (λ v. with_fields kind mode 0 1 1 v kmax w T1 T2 S)
    ∷ allowed (λ v. with_fields kind mode 0 1 1 0 v w T1 T2 S)
    ∷ allowed (λ v. with_fields kind mode 0 1 1 0 kmax v T1 T2 S)
    ∷ allowed (λ v. with_fields kind mode 0 1 1 0 kmax w v T2 S)
    ∷ allowed (λ v. with_fields kind mode 0 1 1 0 kmax w T1 v S)
    ∷ allowed (λ v. with_fields kind mode 0 1 1 0 kmax w T1 T2 v)
    ∷ []

abbrev columns : ℕ → ℕ → ℕ → ℕ → ℕ → ℕ → List (List ℕ)
columns = columns_in 1

-- the numbers from a to b, below 8; of a group of teams or slots, 1 to 3 are one or both of the two, 3 is both
infix 70 ◌··◌
abbrev ◌··◌ : ℕ → ℕ → List ℕ
a ·· b = which (λ v. leb a v && leb v b) 8

-- docs/FORMAT.md, section 3, modes and fields of each kind; functions are those of section 4
rules
    -- kind, kmax, w, T1, T2, S; then mode, function, kmin, kmax, w, T1, T2, S
    : (columns 11 2 0 3 0 3 ≡ 1 ·· 3 ∷ 1 ·· 5 ∷ 0 ·· 2 ∷ 0 ·· 7 ∷ 0 ·· 0 ∷ 1 ·· 3 ∷ 0 ·· 0 ∷ 1 ·· 3 ∷ [])
    -- T1 or T2 has more than one team
    × (columns 12 2 0 3 1 3 ≡ 1 ·· 3 ∷ 1 ·· 5 ∷ 0 ·· 2 ∷ 0 ·· 7 ∷ 0 ·· 0 ∷ 3 ·· 3 ∷ 1 ·· 3 ∷ 1 ·· 3 ∷ [])
    × (columns 12 2 0 1 3 3 ≡ 1 ·· 3 ∷ 1 ·· 5 ∷ 0 ·· 2 ∷ 0 ·· 7 ∷ 0 ·· 0 ∷ 1 ·· 3 ∷ 3 ·· 3 ∷ 1 ·· 3 ∷ [])
    × (columns 13 2 1 1 1 0 ≡ 1 ·· 3 ∷ 1 ·· 5 ∷ 0 ·· 2 ∷ 0 ·· 7 ∷ 1 ·· 7 ∷ 1 ·· 3 ∷ 1 ·· 3 ∷ 0 ·· 0 ∷ [])
    × (columns 14 2 0 3 1 3 ≡ 1 ·· 6 ∷ 1 ·· 5 ∷ 0 ·· 2 ∷ 0 ·· 7 ∷ 0 ·· 0 ∷ 3 ·· 3 ∷ 1 ·· 3 ∷ 1 ·· 3 ∷ [])
    × (columns_in 2 15 2 0 3 1 3 ≡ 2 ·· 2 ∷ 1 ·· 5 ∷ 0 ·· 2 ∷ 0 ·· 7 ∷ 0 ·· 0 ∷ 1 ·· 3 ∷ 1 ·· 3 ∷ 1 ·· 3 ∷ [])
    × (columns 21 2 0 1 1 3 ≡ 1 ·· 1 ∷ 1 ·· 5 ∷ 0 ·· 2 ∷ 0 ·· 7 ∷ 0 ·· 0 ∷ 1 ·· 3 ∷ 1 ·· 3 ∷ 1 ·· 3 ∷ [])
    × (columns 31 2 0 3 0 3 ≡ 1 ·· 6 ∷ 1 ·· 5 ∷ 0 ·· 0 ∷ 0 ·· 7 ∷ 0 ·· 0 ∷ 1 ·· 3 ∷ 0 ·· 0 ∷ 1 ·· 3 ∷ [])
    × (columns 32 2 0 3 0 3 ≡ 1 ·· 6 ∷ 1 ·· 5 ∷ 0 ·· 0 ∷ 1 ·· 7 ∷ 0 ·· 0 ∷ 3 ·· 3 ∷ 0 ·· 0 ∷ 1 ·· 3 ∷ [])
    -- kmin above kmax, which is 0
    × (columns_in 2 34 0 0 3 0 3 ≡ 2 ·· 2 ∷ 1 ·· 5 ∷ 0 ·· 7 ∷ 0 ·· 0 ∷ 0 ·· 0 ∷ 1 ·· 3 ∷ 0 ·· 0 ∷ 1 ·· 3 ∷ [])
    × (columns 41 2 0 3 0 3 ≡ 1 ·· 1 ∷ 1 ·· 5 ∷ 0 ·· 0 ∷ 0 ·· 7 ∷ 0 ·· 0 ∷ 1 ·· 3 ∷ 0 ·· 0 ∷ 1 ·· 3 ∷ [])
    × (columns 42 2 0 3 0 3 ≡ 1 ·· 3 ∷ 1 ·· 5 ∷ 0 ·· 0 ∷ 0 ·· 7 ∷ 0 ·· 0 ∷ 3 ·· 3 ∷ 0 ·· 0 ∷ 1 ·· 3 ∷ [])
    × (columns 51 0 1 3 0 0 ≡ 1 ·· 1 ∷ 1 ·· 5 ∷ 0 ·· 0 ∷ 0 ·· 0 ∷ 1 ·· 7 ∷ 3 ·· 3 ∷ 0 ·· 0 ∷ 0 ·· 0 ∷ [])
    -- no other numbers below 60 are kinds; hard and weight are alike for all
    × (which (λ v. obeys 2 2 (with_fields v 1 0 1 1 0 2 0 3 0 3)) 60 ≡ 11 ∷ 31 ∷ 32 ∷ 41 ∷ 42 ∷ [])
    × (which (λ v. obeys 2 2 (with_fields v 1 0 1 1 0 2 0 3 1 3)) 60 ≡ 12 ∷ 14 ∷ 21 ∷ [])
    × (which (λ v. obeys 2 2 (with_fields v 1 0 1 1 0 2 1 3 1 0)) 60 ≡ 13 ∷ [])
    × (which (λ v. obeys 2 2 (with_fields v 2 0 1 1 0 2 0 3 1 3)) 60 ≡ 12 ∷ 14 ∷ 15 ∷ [])
    × (which (λ v. obeys 2 2 (with_fields v 2 0 1 1 0 0 0 3 0 3)) 60 ≡ 11 ∷ 31 ∷ 34 ∷ 42 ∷ [])
    × (which (λ v. obeys 2 2 (with_fields v 1 0 1 1 0 0 1 3 0 0)) 60 ≡ 51 ∷ [])
    × (allowed (λ v. with_fields 11 1 v 1 1 0 2 0 3 0 3) ≡ 0 ·· 1)
    × (allowed (λ v. with_fields 11 1 0 1 v 0 2 0 3 0 3) ≡ 1 ·· 7)
unfolding all
rules =
    (refl, refl, refl, refl, refl, refl, refl, refl, refl, refl, refl, refl, refl, refl, refl, refl, refl, refl, refl, refl, refl)

-- A constraint with T1 of teams 0 and 1, T2 of 1 and 2, S of slots 2 and 4, in a season of four teams: the games that touch it when they
-- come into slot 2, each 10 · home + away; and the slots that touch it when game (0, 1) comes into them or leaves them.
abbrev groups : ℕ → Constraint
groups kind = with_fields kind 1 0 1 1 0 0 0 3 6 10

abbrev touch_row : ℕ → List (List ℕ)
touch_row kind =
    cat_to (λ i. cat_to (λ j. only_l (not (eqb i j) && touches (groups kind) i j 0 2) ((10 * i + j) ∷ [])) 4) 4
    ∷ which (λ s. touches (groups kind) 0 1 0 s) 7
    ∷ which (λ s. touches (groups kind) 0 1 s 0) 7
    ∷ []

abbrev across : List ℕ
across = 1 ∷ 2 ∷ 10 ∷ 12 ∷ 20 ∷ 21 ∷ []

abbrev one_in_t1 : List ℕ
one_in_t1 = 1 ∷ 2 ∷ 3 ∷ 10 ∷ 12 ∷ 13 ∷ 20 ∷ 21 ∷ 30 ∷ 31 ∷ []

-- docs/FORMAT.md, section 5, the table of touches
touch
    : (touch_row 11 ≡ one_in_t1 ∷ (2 ∷ 4 ∷ []) ∷ (2 ∷ 4 ∷ []) ∷ [])
    × (touch_row 12 ≡ across ∷ (2 ∷ 4 ∷ []) ∷ (2 ∷ 4 ∷ []) ∷ [])
    × (touch_row 13 ≡ across ∷ 1 ·· 6 ∷ 1 ·· 6 ∷ [])
    × (touch_row 14 ≡ across ∷ (2 ∷ 4 ∷ []) ∷ (2 ∷ 4 ∷ []) ∷ [])
    × (touch_row 15 ≡ one_in_t1 ∷ 1 ·· 6 ∷ 1 ·· 6 ∷ [])
    × (touch_row 21 ≡ (1 ∷ 2 ∷ 12 ∷ []) ∷ (2 ∷ 4 ∷ []) ∷ (2 ∷ 4 ∷ []) ∷ [])
    × (touch_row 31 ≡ one_in_t1 ∷ 1 ·· 4 ∷ 1 ·· 4 ∷ [])
    × (touch_row 32 ≡ one_in_t1 ∷ 1 ·· 4 ∷ 1 ·· 4 ∷ [])
    × (touch_row 34 ≡ one_in_t1 ∷ 1 ·· 6 ∷ 1 ·· 6 ∷ [])
    × (touch_row 41 ≡ (1 ∷ 10 ∷ []) ∷ 1 ·· 4 ∷ 1 ·· 4 ∷ [])
    × (touch_row 42 ≡ (1 ∷ 10 ∷ []) ∷ 1 ·· 4 ∷ 1 ·· 4 ∷ [])
    × (touch_row 51 ≡ (1 ∷ 10 ∷ []) ∷ 1 ·· 6 ∷ 1 ·· 6 ∷ [])
unfolding all
touch = (refl, refl, refl, refl, refl, refl, refl, refl, refl, refl, refl, refl)

-- season A under one constraint, its books spoilt: a deviation and a penalty of 9; game g leaves its slot
abbrev spoilt : List ℕ → ℕ → Outcome
spoilt season g = set_call season (buffers sheet_a (9 ∷ []) (9 ∷ 0 ∷ 0 ∷ [])) g 0

-- the books as they were: the change touches nothing
abbrev as_before : ℕ → Outcome
as_before g = outcome (accepted 1 (pos 0) (pos 0)) (buffers (set sheet_a g 0) (9 ∷ []) (9 ∷ 0 ∷ 0 ∷ []))

untouched-on-spoilt-books
    -- GA1 with the teams the other way round; SE1 with one of the teams in T1; CA2 in a slot that is not in S
    : (spoilt (under 21 1 0 0 0 2 1 7) 0 ≡ as_before 0)
    × (spoilt (under 51 1 0 0 3 3 0 0) 4 ≡ as_before 4)
    × (spoilt (under 12 1 0 0 0 1 6 4) 0 ≡ as_before 0)
unfolding all
untouched-on-spoilt-books = (refl, refl, refl)

-- four teams of which i and j meet twice, in slots 1 and 2, under SE1 with w 3
abbrev meet_twice : ℕ → ℕ → List ℕ
meet_twice i j = sizes 4 2 2 1 ++ i ∷ j ∷ j ∷ i ∷ [] ++ head 51 1 0 1 1 0 0 3 ++ body 15 0 0

-- two teams that meet h times at the one's venue and a times at the other's, in as many slots
abbrev fixtures : ℕ → ℕ → List ℕ
fixtures h a = sizes 2 9 (h + a) 0 ++ replicate h 0 ++ replicate a 1 ++ replicate h 1 ++ replicate a 0

counts
    -- BR1 and BR2 in modes 4 to 6, kmax 0 and 1: above kmax and below it; in modes 1 to 3 only above
    : (deviations_under (under 31 6 0 0 0 15 0 7) sheet_a 4 ≡ 0 ∷ 0 ∷ 1 ∷ 1 ∷ [])
    × (deviations_under (under 31 6 0 1 0 15 0 7) sheet_a 4 ≡ 1 ∷ 1 ∷ 0 ∷ 0 ∷ [])
    × (deviations_under (under 31 4 0 0 0 15 0 7) sheet_a 4 ≡ 0 ∷ 0 ∷ 0 ∷ 1 ∷ [])
    × (deviations_under (under 31 5 0 0 0 15 0 7) sheet_a 4 ≡ 0 ∷ 0 ∷ 1 ∷ 0 ∷ [])
    × (deviations_under (under 31 3 0 1 0 15 0 7) sheet_a 4 ≡ 0 ∷ 0 ∷ 0 ∷ 0 ∷ [])
    × (deviations_under (under 32 6 0 1 0 15 0 7) sheet_a 1 ≡ 1 ∷ [])
    -- FA1 and FA2 on teams 0 and 1, at slot 1, in which they meet
    × (deviations_under (under 41 1 0 0 0 3 0 1) sheet_a 2 ≡ 1 ∷ 1 ∷ [])
    × (deviations_under (under 42 1 0 0 0 3 0 1) sheet_a 1 ≡ 1 ∷ [])
    -- pairs rise by their lower team: (0, 3) is the third, (1, 2) the fourth
    × (deviations_under (meet_twice 0 3) (1 ∷ 2 ∷ []) 6 ≡ 0 ∷ 0 ∷ 3 ∷ 0 ∷ 0 ∷ 0 ∷ [])
    × (deviations_under (meet_twice 1 2) (1 ∷ 2 ∷ []) 6 ≡ 0 ∷ 0 ∷ 0 ∷ 3 ∷ 0 ∷ 0 ∷ [])
    -- 8 and 9 meetings, at either venue
    × ((open_with (fixtures 5 3) (1 ∷ 2 ∷ 3 ∷ 4 ∷ 5 ∷ 6 ∷ 7 ∷ 8 ∷ []) 0 2).reply ≡ accepted 0 (pos 0) (pos 0))
    × ((open_with (fixtures 5 4) (1 ∷ 2 ∷ 3 ∷ 4 ∷ 5 ∷ 6 ∷ 7 ∷ 8 ∷ 9 ∷ []) 0 2).reply ≡ declined 4)
unfolding all
counts = (refl, refl, refl, refl, refl, refl, refl, refl, refl, refl, refl, refl)
