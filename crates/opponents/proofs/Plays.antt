-- The slots in which a team plays, by the masks of its games. Assumes that the tables are tied.
use mathlib.Core.Path.{◌≡◌, refl, sym, ap, ◌∙◌}
use Prim.Native.Nat.{ℕ, ◌<◌}
use native.Mathlib.Nat.{add-zero, zero-add}
use lib.Dec.{eqb, ltb}
use lib.ListN.{get_or}
use Rattle.robinx.specs.Season.{most_slots}
use Rattle.robinx.specs.Groups.{bit, has}
use Rattle.robinx.specs.Timetable.{home_side, away_side, games_with, games_in, plays}
use Rattle.robinx.proofs.Ext.{sum-ext}
use Rattle.robinx.proofs.Bits.{at_bits}
use Rattle.tables.specs.declared.Tables.{Tables}
use Rattle.tables.specs.Tables.{Tied, x_of}
use Rattle.opponents.specs.Games.{MaskOf}

some : (m k : ℕ) → ltb 0 (bit m k) ≡ has m k
some m k = at_bits (λ x y. ltb 0 x ≡ eqb x 1) refl refl refl refl m m k

module _ {n : ℕ} {ts : Tables} (tied : Tied n ts) (t : ℕ) (lt : t < n) where
  pub home-mask : MaskOf (games_in n (x_of ts.meets) home_side t) (get_or ts.home t 0)
  unfolding games_in games_with
  home-mask k l = tied.home-row t k lt l ∙ sum-ext n (λ j lj. sym (add-zero (x_of ts.meets t j k)))

  pub away-mask : MaskOf (games_in n (x_of ts.meets) away_side t) (get_or ts.away t 0)
  unfolding games_in games_with
  away-mask k l = tied.away-row t k lt l ∙ sum-ext n (λ j lj. sym (zero-add (x_of ts.meets j t k)))

  pub plays-mask : (d m : ℕ) → MaskOf (games_in n (x_of ts.meets) d t) m → (k : ℕ) → k < most_slots → plays n (x_of ts.meets) d t k ≡ has m k
  unfolding plays
  plays-mask d m mask k l = ap (ltb 0) (sym (mask k l)) ∙ some m k
