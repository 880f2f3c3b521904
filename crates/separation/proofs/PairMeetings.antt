-- The meetings of two teams by the masks in which one hosts the other. Assumes nothing.
use mathlib.Core.Path.{◌≡◌, refl, ◌∙◌}
use mathlib.Core.Bool.{◌||◌}
use mathlib.Core.List.{List}
use Prim.Native.Nat.{ℕ, ◌+◌, ◌%◌, ◌^◌, ◌≤◌}
use native.Mathlib.Nat.{mod-lt}
use lib.Bits.{bit_or}
use lib.Dec.{eqb, ltb}
use lib.Pow.{pow_pos}
use Rattle.robinx.specs.Season.{most_slots}
use Rattle.robinx.specs.Sums.{sum_to}
use Rattle.robinx.specs.Groups.{bit, has}
use Rattle.robinx.specs.Timetable.{meet}
use Rattle.robinx.specs.Deviations.{too_close}
use Rattle.robinx.proofs.Bits.{at_bits, or-has, front-has}
use Rattle.masks.proofs.Width.{closeness-stop}
use Rattle.masks.proofs.GapWalk.{close-ext}
use Rattle.tables.specs.Tables.{x_of, hosting}
use Rattle.separation.specs.Closeness.{closeness}

-- slot k is in one of the masks
in_either : (m n k : ℕ) → has m k || has n k ≡ ltb 0 (bit m k + bit n k)
in_either = at_bits (λ x y. eqb x 1 || eqb y 1 ≡ ltb 0 (x + y)) refl refl refl refl

pub pair-close : (meets : List (List ℕ)) (w P i j : ℕ) → P ≤ most_slots
    → sum_to (too_close (has (bit_or (hosting meets i j) (hosting meets j i) % 2 ^ P)) w) most_slots ≡ closeness (x_of meets) w P i j
unfolding meet
pair-close meets w P i j l =
    let a = hosting meets i j in
    let b = hosting meets j i in
    closeness-stop P most_slots l (bit_or a b % 2 ^ P) w (mod-lt (bit_or a b) (pow_pos P))
    ∙ close-ext w P (λ k lk. front-has (bit_or a b) P k lk ∙ or-has a b k ∙ in_either a b k)

pub ruleset separation_rules = (pair-close)
