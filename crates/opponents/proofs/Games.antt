-- Masks of a team's games count games: where the tables are tied, a union of masks has a game in a slot at most once.
use mathlib.Core.Path.{◌≡◌, refl, sym, ap, ap₂, ◌∙◌}
use mathlib.Core.Bool.{Bool, true, false}
use Prim.Native.Nat.{ℕ, zero, suc, ◌+◌, ◌-◌, ◌^◌, ◌<◌, ◌≤◌, max}
use native.Mathlib.Omega.{arith}
use lib.Bits.{bit_or}
use lib.ListN.{get_or}
use Rattle.std.proofs.lemmas.Nat.Bits.{bit_at_or, bit_at-zero, bit_at_ones}
use Rattle.robinx.specs.Season.{most_teams, most_slots}
use Rattle.robinx.specs.Sums.{sum_to, max_to, only}
use Rattle.robinx.specs.Groups.{bit, has}
use Rattle.robinx.specs.Timetable.{X, games_with, games_in, games_against}
use Rattle.robinx.proofs.Sums.{only-le, only_sum, max-bound, sum-add, sum-le}
use Rattle.robinx.proofs.Ext.{sum-ext}
use Rattle.robinx.proofs.SetBits.{none-past}
use Rattle.robinx.proofs.Stops.{max-stop}
use Rattle.tables.specs.declared.Tables.{Tables}
use Rattle.tables.specs.Tables.{Tied, x_of, hosting}
use Rattle.opponents.specs.Games.{MaskOf, of_sides, in_union, Union}

-- where at most one of two or of many is 1, the largest is the sum
max-is-sum : (f : ℕ → ℕ) (n : ℕ) → sum_to f n ≤ 1 → max_to f n ≡ sum_to f n
unfolding max_to sum_to
max-is-sum f zero h = refl
max-is-sum f (suc n) h = omega (arith, max-is-sum f n (omega arith))

either : (b c : Bool) (u v : ℕ) → u + v ≤ 1 → max (only b u) (only c v) ≡ only b u + only c v
either b c u v h = omega (arith, only-le b u, only-le c v)

bit-only : (b : Bool) (m k : ℕ) → bit (only b m) k ≡ only b (bit m k)
bit-only true m k = refl
bit-only false m k = bit_at-zero k

sum-sides : (b c : Bool) (f g : ℕ → ℕ) (n : ℕ) → sum_to (λ j. only b (f j) + only c (g j)) n ≡ only b (sum_to f n) + only c (sum_to g n)
sum-sides b c f g n = sum-add (λ j. only b (f j)) (λ j. only c (g j)) n ∙ ap₂ ◌+◌ (only_sum b f n) (only_sum c g n)

only-sides : (a b c : Bool) (u v : ℕ) → only a (only b u + only c v) ≡ only b (only a u) + only c (only a v)
only-sides true b c u v = refl
only-sides false true true u v = refl
only-sides false true false u v = refl
only-sides false false true u v = refl
only-sides false false false u v = refl

part-le : (T : ℕ) (f : ℕ → ℕ) (n : ℕ) → sum_to (λ j. only (has T j) (f j)) n ≤ sum_to f n
part-le T f n = sum-le n (λ j l. only-le (has T j) (f j))

-- a union of words that share no slot k
union-sum : (word : ℕ → ℕ) (T n k : ℕ) → T < 2 ^ n → n ≤ most_teams → sum_to (λ j. bit (word j) k) n ≤ 1
    → in_union word T most_teams k ≡ sum_to (λ j. only (has T j) (bit (word j) k)) n
union-sum word T n k h ln one =
    max-stop n most_teams ln (λ j. only (has T j) (bit (word j) k)) (λ j a b. rw (none-past T n h j a))
    ∙ max-is-sum _ n (omega (arith, part-le T (λ j. bit (word j) k) n))

-- nobody's words have nothing in common
nobody : (b : Bool) (word : ℕ → ℕ) (T n k : ℕ) → in_union word (only b T) n k ≡ only b (in_union word T n k)
nobody true word T n k = refl
nobody false word T n k = omega (arith, max-bound {f = λ j. only (has 0 j) (bit (word j) k)} n 0 (λ j lj. rw (bit_at-zero j) (omega arith)))

module _ {n : ℕ} {ts : Tables} (tied : Tied n ts) (d t : ℕ) (lt : t < n) where
  once : (k : ℕ) → k < most_slots → sum_to (λ j. x_of ts.meets t j k) n + sum_to (λ j. x_of ts.meets j t k) n ≤ 1
  once k lk = rw (← tied.home-row t k lt lk, ← tied.away-row t k lt lk) (tied.once t k lt lk)

  -- games against any team
  pub sides-mask : MaskOf (games_in n (x_of ts.meets) d t) (of_sides d (get_or ts.home t 0) (get_or ts.away t 0))
  unfolding games_in games_with
  sides-mask k lk =
      bit_at_or (only (has d 0) (get_or ts.home t 0)) (only (has d 1) (get_or ts.away t 0)) k
      ∙ ap₂ max (bit-only (has d 0) (get_or ts.home t 0) k) (bit-only (has d 1) (get_or ts.away t 0) k)
      ∙ either (has d 0) (has d 1) _ _ (tied.once t k lt lk)
      ∙ ap₂ (λ (u v : ℕ). only (has d 0) u + only (has d 1) v) (tied.home-row t k lt lk) (tied.away-row t k lt lk)
      ∙ sym (sum-sides (has d 0) (has d 1) (λ j. x_of ts.meets t j k) (λ j. x_of ts.meets j t k) n)

  -- .. against a group, where a side that is not asked for has nobody's games
  pub union-mask : (T u v : ℕ) → n ≤ most_teams → T < 2 ^ n
      → Union (λ j. hosting ts.meets t j) (only (has d 0) T) most_teams u → Union (λ i. hosting ts.meets i t) (only (has d 1) T) most_teams v
      → MaskOf (games_against n (x_of ts.meets) d T t) (bit_or u v)
  unfolding games_against games_with
  union-mask T u v ln h p q k lk =
      let f : ℕ → ℕ = λ j. only (has T j) (x_of ts.meets t j k) in
      let g : ℕ → ℕ = λ j. only (has T j) (x_of ts.meets j t k) in
      let o = once k lk in
      let eu = union-sum (λ j. hosting ts.meets t j) T n k h ln (omega arith) in
      let ev = union-sum (λ i. hosting ts.meets i t) T n k h ln (omega arith) in
      bit_at_or u v k
      ∙ ap₂ max (p k ∙ nobody (has d 0) _ _ _ k ∙ ap (only (has d 0)) eu) (q k ∙ nobody (has d 1) _ _ _ k ∙ ap (only (has d 1)) ev)
      ∙ either (has d 0) (has d 1) (sum_to f n) (sum_to g n)
      (omega (arith, part-le T (λ j. x_of ts.meets t j k) n, part-le T (λ j. x_of ts.meets j t k) n))
      ∙ sym (sum-sides (has d 0) (has d 1) f g n)
      ∙ sym (sum-ext n (λ j lj. only-sides (has T j) (has d 0) (has d 1) (x_of ts.meets t j k) (x_of ts.meets j t k)))

-- The group of all n teams.
pub against-all : (n : ℕ) (x : X) (d t T k : ℕ) → T ≡ 2 ^ n - 1 → games_against n x d T t k ≡ games_in n x d t k
unfolding games_against games_in
against-all n x d t T k e = sum-ext n (λ j l. rw (e, bit_at_ones n j l))
