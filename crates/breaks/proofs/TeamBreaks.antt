-- A team's breaks by the masks of its home games and its away games. Assumes that the tables are tied.
use Rattle.std.proofs.lemmas.Nat.Bits.{bit_at-zero, bit_at_or}
use mathlib.Core.Path.{◌≡◌, sym, ap₂}
use mathlib.Core.Bool.{Bool, true, false, ◌&&◌}
use Prim.Native.Nat.{ℕ, ◌+◌, ◌*◌, ◌<◌, ◌≤◌}
use native.Mathlib.Omega.{arith}
use lib.Bits.{bit_or}
use lib.ListN.{get_or}
use Rattle.robinx.specs.Season.{most_slots, slots_of}
use Rattle.robinx.specs.Sums.{only}
use Rattle.robinx.specs.Groups.{bit, has}
use Rattle.robinx.specs.Timetable.{side, home_side, away_side, any_side, games_in, break_on, breaks_in}
use Rattle.robinx.specs.Deviations.{over, breaks}
use Rattle.robinx.specs.declared.Constraint.{Constraint}
use Rattle.robinx.proofs.Sums.{only-bound, only-le, sum_bound}
use Rattle.robinx.proofs.Ext.{over-ext, last_was-ext}
use Rattle.masks.specs.Masks.{Within, Apart, is_break}
use Rattle.tables.specs.declared.Tables.{Tables}
use Rattle.tables.specs.Tables.{Tied, x_of}
use Rattle.opponents.specs.Games.{MaskOf}
use Rattle.opponents.proofs.Games.{sides-mask}
use Rattle.opponents.proofs.Plays.{home-mask, away-mask, plays-mask}

-- a side that is not asked for has no games
asked-le : (asked : Bool) (m k : ℕ) → bit (only asked m) k ≤ bit m k
asked-le true m k = omega arith
asked-le false m k = rw (bit_at-zero k) (omega arith)

-- slots of a group that pass a test are no more than all
pub over-le : (P S : ℕ) (q : ℕ → Bool) → over P S (λ k. only (q k) 1) ≤ P
unfolding over
over-le P S q = omega (arith, sum_bound {f = λ k. only (has S k) (only (q k) 1)} P 1 (λ k l. only-bound (has S k) (only-le (q k) 1)))

-- at most two breaks in each slot of a group
pub few-breaks : (P S : ℕ) (p q : ℕ → Bool) → over P S (λ k. only (p k) 1 + only (q k) 1) ≤ P * 2
unfolding over
few-breaks P S p q = sum_bound P 2 (λ k l. only-bound (has S k) (omega (arith, only-le (p k) 1, only-le (q k) 1)))

module _ {n : ℕ} {ts : Tables} (tied : Tied n ts) (t : ℕ) (lt : t < n) where
  abbrev h : ℕ
  h = get_or ts.home t 0

  abbrev a : ℕ
  a = get_or ts.away t 0

  -- what a count of both sides' breaks asks for
  pub asked-sides : (p q : Bool) {home away all : ℕ} → (home ≡ only p h) × (away ≡ only q a) → all ≡ bit_or h a
      → Within home all × Within away all × Apart home away
  asked-sides p q (eh, ea) eu = rw (eh, ea, eu) (
    λ k. omega (arith, asked-le p h k, bit_at_or h a k),
    λ k. omega (arith, asked-le q a k, bit_at_or h a k),
    λ k l. omega (arith, asked-le p h k, asked-le q a k, tied.once t k lt l),
  )

  -- the breaks of one side, where it is asked for
  break-mask : (asked : Bool) (d m : ℕ) → MaskOf (games_in n (x_of ts.meets) d t) m → (k : ℕ) → k < most_slots
      → is_break (only asked m) (bit_or h a) k ≡ asked && break_on n (x_of ts.meets) d t k
  unfolding break_on
  break-mask false d m mask k l = rw (bit_at-zero k)
  break-mask true d m mask k l =
      sym (ap₂ ◌&&◌ (plays-mask tied t lt d m mask k l)
      (last_was-ext k (λ b lb. plays-mask tied t lt any_side (bit_or h a) (sides-mask tied any_side t lt) b (omega arith))
      (λ b lb. plays-mask tied t lt d m mask b (omega arith))))

  pub team-breaks : (P : ℕ) (c : Constraint) → P ≤ most_slots
      → over P (slots_of c) (λ k. only (is_break (only (has (side c.mode) 0) h) (bit_or h a) k) 1
      + only (is_break (only (has (side c.mode) 1) a) (bit_or h a) k) 1)
      ≡ breaks n P c (x_of ts.meets) t
  unfolding breaks breaks_in
  team-breaks P c lp =
      over-ext P (slots_of c) (λ k lk s.
      ap₂ (λ (x y : Bool). only x 1 + only y 1)
      (break-mask (has (side c.mode) 0) home_side h (home-mask tied t lt) k (omega arith))
      (break-mask (has (side c.mode) 1) away_side a (away-mask tied t lt) k (omega arith)))
