-- The deviations of each kind (FORMAT 3.3; RobinX, section 3.2), from the numbers of teams and slots,
-- the constraint and x. Teams, slots and pairs stand in rising order.
use Rattle.std.specs.Prelude.{List, [], ◌∷◌, Bool, true, false, ◌&&◌, cond, ℕ, suc, ◌+◌, ◌-◌, max, ltb}
use Rattle.robinx.specs.Sums.{sum_to, max_to, cat_to, only, only_l, dist}
use Rattle.robinx.specs.Season.{slots_of}
use Rattle.robinx.specs.Groups.{has, size, is_pair, pairs}
use Rattle.robinx.specs.Timetable.{X, side, home_side, away_side, first_modes, plays, games_in, games_against, games_up_to, games_between}
use Rattle.robinx.specs.Timetable.{breaks_in, along_trip, over_trips, meet, last_slot}
use Rattle.robinx.specs.Kinds.{kind_of, form_at}
use Rattle.robinx.specs.declared.Kind.{Kind}
use Rattle.robinx.specs.declared.Kind.TheVariants.{Ca1, Ca2, Ca3, Ca4, Ca5, Ga1, Br1, Br2, Br4, Fa1, Fa2, Se1, Unknown}
use Rattle.robinx.specs.declared.Shape.{Shape}
use Rattle.robinx.specs.declared.Shape.TheVariants.{Nothing, One, EachTeam, EachPair, OneOrEachSlot}
use Rattle.robinx.specs.declared.Constraint.{Constraint}

-- f of each member below n
unfoldable pub each : ℕ → ℕ → (ℕ → ℕ) → List ℕ
each n T f = cat_to (λ t. only_l (has T t) (f t ∷ [])) n

-- f of each pair of members below n, lower one first
unfoldable pub each_pair : ℕ → ℕ → (ℕ → ℕ → ℕ) → List ℕ
each_pair n T f = cat_to (λ i. cat_to (λ j. only_l (is_pair T i j) (f i j ∷ [])) n) n

-- the sum of f over the slots of S
unfoldable pub over : ℕ → ℕ → (ℕ → ℕ) → ℕ
over P S f = sum_to (λ k. only (has S k) (f k)) P

-- the largest of f over the slots of S, at least 0
unfoldable pub worst : ℕ → ℕ → (ℕ → ℕ) → ℕ
worst P S f = max_to (λ k. only (has S k) (f k)) P

-- how far a count is below kmin or above kmax; a difference of numbers is at least 0
abbrev pub outside : ℕ → ℕ → ℕ → ℕ
outside kmin kmax v = max (kmin - v) (v - kmax)

-- BR1, BR2: in the first modes more than kmax counts, in the others any distance from it
abbrev pub off_target : Bool → ℕ → ℕ → ℕ
off_target true kmax v = v - kmax
off_target false kmax v = dist kmax v

-- CA1: the team's games of the mode in S
unfoldable pub dev_ca1 : ℕ → ℕ → Constraint → X → List ℕ
dev_ca1 n P c x = each n c.t1 (λ t. outside c.kmin c.kmax (over P (slots_of c) (λ k. games_in n x (side c.mode) t k)))

-- CA2: .. against T2
unfoldable pub dev_ca2 : ℕ → ℕ → Constraint → X → List ℕ
dev_ca2 n P c x = each n c.t1 (λ t. outside c.kmin c.kmax (over P (slots_of c) (λ k. games_against n x (side c.mode) c.t2 t k)))

-- CA3: in each run of w slots, from each slot a that has w slots from it on; their deviations are summed
unfoldable pub in_run : (ℕ → ℕ) → ℕ → ℕ → ℕ
in_run f w a = sum_to (λ d. f (a + d)) w

unfoldable pub dev_ca3 : ℕ → ℕ → Constraint → X → List ℕ
dev_ca3 n P c x =
    each n c.t1 (λ t.
    sum_to
    (λ a. outside c.kmin c.kmax (in_run (games_against n x (side c.mode) c.t2 t) c.w a))
    (suc P - c.w))

-- CA4: games between a team of T1 that plays on the mode's side and an opponent of T2, over all of S or in each slot of it
unfoldable pub dev_ca4 : ℕ → ℕ → Constraint → X → List ℕ
dev_ca4 n P c x =
    cond (first_modes c.mode)
    (outside c.kmin c.kmax (over P (slots_of c) (λ k. games_between n x (side c.mode) c.t1 c.t2 k)) ∷ [])
    (each P (slots_of c) (λ k. outside c.kmin c.kmax (games_between n x (side c.mode) c.t1 c.t2 k)))

-- the sum of f over the trips of team t that count, by their first slots
unfoldable pub trips : ℕ → ℕ → Constraint → X → ℕ → (ℕ → ℕ) → ℕ
trips n P c x t f = over_trips (plays n x away_side t) (plays n x home_side t) P (slots_of c) f

-- the games of team t against T2 on the trip from a, in S or not
unfoldable pub trip_games : ℕ → ℕ → Constraint → X → ℕ → ℕ → ℕ
trip_games n P c x t a = along_trip (plays n x away_side t) (plays n x home_side t) P a (games_against n x away_side c.t2 t)

-- CA5: on each trip the games against T2; their deviations are summed. RobinX, where a(i, s1, s2) is 1 for a trip of i from s1 to s2, else 0:
-- d(i) = Σ s1 ∈ S, s2 ∈ S, s2 > s1 : a(i, s1, s2) · max(kmin − v; v − kmax; 0) with v = Σ j ∈ T2, s1 ≤ s3 ≤ s2 : x(j, i, s3); `formula-ca5`
unfoldable pub dev_ca5 : ℕ → ℕ → Constraint → X → List ℕ
dev_ca5 n P c x = each n c.t1 (λ t. trips n P c x t (λ a. outside c.kmin c.kmax (trip_games n P c x t a)))

-- GA1: games in S that a team of T1 hosts against one of T2
unfoldable pub dev_ga1 : ℕ → ℕ → Constraint → X → List ℕ
dev_ga1 n P c x = outside c.kmin c.kmax (over P (slots_of c) (λ k. games_between n x home_side c.t1 c.t2 k)) ∷ []

-- a team's breaks of the mode's side in S
unfoldable pub breaks : ℕ → ℕ → Constraint → X → ℕ → ℕ
breaks n P c x t = over P (slots_of c) (λ k. breaks_in n x (side c.mode) t k)

-- BR1: the breaks of each team
unfoldable pub dev_br1 : ℕ → ℕ → Constraint → X → List ℕ
dev_br1 n P c x = each n c.t1 (λ t. off_target (first_modes c.mode) c.kmax (breaks n P c x t))

-- BR2: the breaks of all teams of T1 together
unfoldable pub dev_br2 : ℕ → ℕ → Constraint → X → List ℕ
dev_br2 n P c x = off_target (first_modes c.mode) c.kmax (sum_to (λ t. only (has c.t1 t) (breaks n P c x t)) n) ∷ []

-- BR4: how many trips fewer than kmin each team has. RobinX: d(i) = max(kmin − Σ s1 ∈ S, s2 ∈ S, s2 > s1 : a(i, s1, s2); 0); `formula-br4`
unfoldable pub dev_br4 : ℕ → ℕ → Constraint → X → List ℕ
dev_br4 n P c x = each n c.t1 (λ t. c.kmin - trips n P c x t (λ a. 1))

-- FA1: home games less away games against T1 in slots 1 to s, either way round, more than kmax: the largest over s in S
unfoldable pub dev_fa1 : ℕ → ℕ → Constraint → X → List ℕ
dev_fa1 n P c x =
    each n c.t1 (λ t.
    worst P (slots_of c) (λ k. dist (games_up_to n x home_side c.t1 t (suc k)) (games_up_to n x away_side c.t1 t (suc k)) - c.kmax))

-- FA2: the same of two teams' games of the mode against T1
unfoldable pub dev_fa2 : ℕ → ℕ → Constraint → X → List ℕ
dev_fa2 n P c x =
    each_pair n c.t1 (λ i j.
    worst P (slots_of c) (λ k.
    dist (games_up_to n x (side c.mode) c.t1 i (suc k)) (games_up_to n x (side c.mode) c.t1 j (suc k)) - c.kmax))

-- SE1: how many slots fewer than w lie between a game in slot k and the one before it; of two teams' meetings, summed over all slots. RobinX, where
-- y(i, j, s1, s2) is 1 for consecutive meetings in s1 and s2, else 0, prints d(i, j) = Σ s1, s2 > s1 : y(i, j, s1, s2) · max(w − (s2 − s1); 0);
-- its words, and FORMAT 3.6, take the slots between them, s2 − s1 − 1; `formula-se1`
unfoldable pub too_close : (ℕ → Bool) → ℕ → ℕ → ℕ
too_close game w k = only (game k && ltb 0 (last_slot game k)) (w - (suc k - last_slot game k - 1))

unfoldable pub dev_se1 : ℕ → ℕ → Constraint → X → List ℕ
dev_se1 n P c x = each_pair n c.t1 (λ i j. sum_to (too_close (meet x i j) c.w) P)

unfoldable pub deviations_of : Kind → ℕ → ℕ → Constraint → X → List ℕ
deviations_of Ca1 = dev_ca1
deviations_of Ca2 = dev_ca2
deviations_of Ca3 = dev_ca3
deviations_of Ca4 = dev_ca4
deviations_of Ca5 = dev_ca5
deviations_of Ga1 = dev_ga1
deviations_of Br1 = dev_br1
deviations_of Br2 = dev_br2
deviations_of Br4 = dev_br4
deviations_of Fa1 = dev_fa1
deviations_of Fa2 = dev_fa2
deviations_of Se1 = dev_se1
deviations_of Unknown = λ n P c x. []

unfoldable pub deviations : ℕ → ℕ → Constraint → X → List ℕ
deviations n P c x = deviations_of (kind_of c.kind) n P c x

-- How many deviations there are, by the row of the kind.
abbrev pub in_shape : Shape → ℕ → ℕ → Constraint → ℕ
in_shape Nothing n P c = 0
in_shape One n P c = 1
in_shape EachTeam n P c = size n c.t1
in_shape EachPair n P c = pairs n c.t1
in_shape OneOrEachSlot n P c = cond (first_modes c.mode) 1 (size P (slots_of c))

unfoldable pub entries : ℕ → ℕ → Constraint → ℕ
entries n P c = in_shape (form_at c.kind).shape n P c
