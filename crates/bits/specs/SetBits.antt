-- What a turn of the walk over a word's set bits gives.
use Rattle.std.specs.Prelude.{◌≡◌, true, false, ℕ, ◌<◌, Option, MatchOption}
use Rattle.robinx.specs.Groups.{has}
use Rattle.bits.specs.declared.SetBits.{SetBits}

-- k is the lowest set bit of w, and r has the others
pub record Lowest (w k r : ℕ) : Type 0 where
  pub room : k < 64
  pub found : has w k ≡ true
  pub clear : (i : ℕ) → i < k → has w i ≡ false
  pub gone : has r k ≡ false
  pub others : (i : ℕ) → (i ≡ k → ⊥) → has r i ≡ has w i

-- a call of `next` at m gives the lowest bit that is left, or nothing where none is
abbrev pub Steps : SetBits → Option ℕ → SetBits → Type 0
Steps m o r = MatchOption o ((m.rest ≡ 0) × (r ≡ m)) (λ k. Lowest m.rest k r.rest)
