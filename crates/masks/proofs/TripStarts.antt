-- The away games that are no break are the first ones of their runs.
use Rattle.std.proofs.Common.{◌≡◌, ℕ, ◌^◌, ◌<◌, Bool, true, false, not, ◌&&◌, eqb, refl, ap, ◌∙◌}
use Rattle.std.specs.Int.{Width, bit_not}
use mir.Val.{bits}
use lib.Bits.{bit_and, bit_or}
use Rattle.robinx.specs.Sums.{only}
use Rattle.robinx.specs.Groups.{bit, has}
use Rattle.robinx.specs.Timetable.{last_was, starts_trip}
use Rattle.robinx.proofs.Ext.{last_was-ext}
use Rattle.robinx.proofs.Bits.{or-has}
use Rattle.masks.specs.Masks.{is_break}
use Rattle.masks.proofs.Ends.{rest_has}

no-break : (a b : Bool) → a && not (eqb (only (a && b) 1) 1) ≡ a && not b
no-break true true = refl
no-break true false = refl
no-break false b = refl

pub start_has : (w : Width) (away home m k : ℕ) → m < 2 ^ bits w → k < bits w
    → bit m k ≡ only (is_break away (bit_or away home) k) 1
    → has (bit_and away (bit_not w m)) k ≡ starts_trip (has away) (has home) k
unfolding starts_trip
start_has w away home m k h l e =
    rest_has w m h away k l ∙ ap (λ (z : ℕ). has away k && not (eqb z 1)) e
    ∙ no-break (has away k) (last_was (has (bit_or away home)) (has away) k)
    ∙ ap (λ (b : Bool). has away k && not b) (last_was-ext k (λ a l. or-has away home a) (λ a l. refl))
