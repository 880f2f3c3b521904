-- Games between two groups are the games that each team hosts against the opponents counted for it. Assumes nothing.
use Rattle.std.proofs.lemmas.Nat.Bits.{bit_at-zero, bit_at-lt}
use mathlib.Core.Path.{◌≡◌, refl, sym, ap, ap₂, ◌∙◌}
use mathlib.Core.List.{List, ◌∷◌}
use mathlib.Core.Bool.{Bool, true, false, ◌&&◌, ◌||◌, and_assoc, and_comm}
use Prim.Native.Nat.{ℕ, ◌^◌, ◌<◌, ◌≤◌}
use native.Mathlib.Omega.{arith}
use native.Mathlib.Nat.{add-zero}
use lib.Bits.{or_lt}
use lib.ListN.{length, get_or}
use Rattle.std.specs.List.{sum_by}
use Rattle.std.proofs.lemmas.List.Recursion.{is_sum_by}
use Rattle.robinx.specs.Season.{most_slots}
use Rattle.robinx.specs.Sums.{sum_to, only}
use Rattle.robinx.specs.Groups.{bit, has}
use Rattle.robinx.specs.Timetable.{X, home_side, games_with, games_against, between, games_between}
use Rattle.robinx.specs.Deviations.{over}
use Rattle.robinx.proofs.Sums.{only_sum, sum-shift, sum-swap, sum-le, sum_bound, only-le}
use Rattle.robinx.proofs.Ext.{sum-ext}
use Rattle.robinx.specs.declared.Constraint.{Constraint}
use Rattle.robinx.proofs.Bits.{or-has}
use Rattle.tables.specs.declared.Tables.{Tables}
use Rattle.tables.specs.Tables.{x_of}
use Rattle.opponents.specs.Checkable.{Checkable}
use Rattle.between.specs.Between.{guests, hosts, MasksOf}

only-has : (b : Bool) (m k : ℕ) → has (only b m) k ≡ b && has m k
only-has true m k = refl
only-has false m k = rw (bit_at-zero k)

pub guests-has : (d T1 T2 i j : ℕ) → has (guests d T1 T2 i) j ≡ between d T1 T2 i j
unfolding between
guests-has d T1 T2 i j =
    or-has (only (has d 0 && has T1 i) T2) (only (has d 1 && has T2 i) T1) j
    ∙ ap₂ ◌||◌
    (only-has (has d 0 && has T1 i) T2 j ∙ and_assoc (has d 0) (has T1 i) (has T2 j))
    (only-has (has d 1 && has T2 i) T1 j ∙ and_assoc (has d 1) (has T2 i) (has T1 j)
    ∙ ap (λ (b : Bool). has d 1 && b) (and_comm (has T2 i) (has T1 j)))

only-lt : (b : Bool) {v B : ℕ} → v < B → only b v < B
only-lt true l = l
only-lt false l = omega arith

pub guests-lt : (n d T1 T2 i : ℕ) → T1 < 2 ^ n → T2 < 2 ^ n → guests d T1 T2 i < 2 ^ n
guests-lt n d T1 T2 i h1 h2 = or_lt n _ _ (only-lt (has d 0 && has T1 i) h2) (only-lt (has d 1 && has T2 i) h1)

pub hosts-against : (n : ℕ) (x : X) (d T1 T2 i k : ℕ)
    → games_against n x home_side (guests d T1 T2 i) i k ≡ hosts n x d T1 T2 i k
unfolding games_against games_with hosts
hosts-against n x d T1 T2 i k =
    sum-ext n (λ j l. ap₂ only (guests-has d T1 T2 i j) (add-zero (x i j k)))

-- a sum over slots of sums over teams, the other way round
pub over-sum : (P S : ℕ) (f : ℕ → ℕ → ℕ) (n : ℕ) → over P S (λ k. sum_to (λ i. f i k) n) ≡ sum_to (λ i. over P S (f i)) n
unfolding over
over-sum P S f n =
    sum-ext P (λ k l. sym (only_sum (has S k) (λ i. f i k) n)) ∙ sum-swap (λ k i. only (has S k) (f i k)) P n

-- all counted games in S
pub hosted-over : (n : ℕ) (x : X) (d T1 T2 S : ℕ)
    → sum_to (λ i. over most_slots S (hosts n x d T1 T2 i)) n ≡ over most_slots S (games_between n x d T1 T2)
unfolding games_between hosts
hosted-over n x d T1 T2 S = sym (over-sum most_slots S (hosts n x d T1 T2) n)

-- a mask has no more slots of S than there are
pub count-le : (m S : ℕ) → over most_slots S (bit m) ≤ most_slots
unfolding over
count-le m S =
    omega (arith, sum_bound {f = λ k. only (has S k) (bit m k)} most_slots 1 (λ k l. omega (arith, only-le (has S k) (bit m k), bit_at-lt m k)))

-- a team has one game a slot at most
pub hosted-le : {n P : ℕ} {c : Constraint} {ts : Tables} → Checkable n P c ts → (S d T1 T2 i : ℕ) → i < n
    → over most_slots S (hosts n (x_of ts.meets) d T1 T2 i) ≤ most_slots
unfolding over hosts
hosted-le {n} {ts = ts} r S d T1 T2 i l =
    omega (
      arith,
      sum_bound {f = λ k. only (has S k) (hosts n (x_of ts.meets) d T1 T2 i k)} most_slots 1 (λ k lk.
          omega (
            arith,
            only-le (has S k) (hosts n (x_of ts.meets) d T1 T2 i k),
            sum-le {f = λ j. only (between d T1 T2 i j) (x_of ts.meets i j k)} n (λ j lj. only-le (between d T1 T2 i j) (x_of ts.meets i j k)),
            r.tied.home-row i k l lk,
            r.tied.once i k l lk,
          )),
    )

-- a sum of a list by its places, in std's words
sum_to-places : (f : ℕ → ℕ) (l : List ℕ) → sum_to (λ i. f (get_or l i 0)) (length l) ≡ sum_by f l
unfolding sum_to
sum_to-places f = is_sum_by (λ l. sum_to (λ i. f (get_or l i 0)) (length l)) f refl (λ x l. sum-shift (λ i. f (get_or (x ∷ l) i 0)) (length l))

-- .. and per slot
pub columns-between : (n : ℕ) (x : X) (d T1 T2 : ℕ) {words : List ℕ} → length words ≡ n → MasksOf (hosts n x d T1 T2) words n
    → (k : ℕ) → k < most_slots → sum_by (λ word. bit word k) words ≡ games_between n x d T1 T2 k
unfolding games_between hosts
columns-between n x d T1 T2 {words} e h k l = rw (← sum_to-places (λ word. bit word k) words, e) (sum-ext n (λ i li. h.mask i li k l))
