-- Masks of a team's games.
use Rattle.std.specs.Prelude.{◌≡◌, ℕ, ◌<◌}
use Rattle.std.specs.Int.Bits.{bit_or}
use Rattle.robinx.specs.Season.{most_teams, most_slots}
use Rattle.robinx.specs.Sums.{max_to, only}
use Rattle.robinx.specs.Groups.{bit, has}

-- the mask's bits are f
abbrev pub MaskOf : (ℕ → ℕ) → ℕ → Type 0
MaskOf f m = (k : ℕ) → k < most_slots → bit m k ≡ f k

-- of a mask of home games and one of away games those of the sides d
abbrev pub of_sides : ℕ → ℕ → ℕ → ℕ
of_sides d h a = bit_or (only (has d 0) h) (only (has d 1) a)

-- 1 if slot k is in the word of a member of T below n, else 0
abbrev pub in_union : (ℕ → ℕ) → ℕ → ℕ → ℕ → ℕ
in_union word T n k = max_to (λ t. only (has T t) (bit (word t) k)) n

-- m is the union of the members' words
abbrev pub Union : (ℕ → ℕ) → ℕ → ℕ → ℕ → Type 0
Union word T n m = (k : ℕ) → bit m k ≡ in_union word T n k

-- .. whatever words they are that may be given at the members
abbrev pub GathersUnion : ℕ → (ℕ → ℕ → Type 0) → ℕ → Type 0
GathersUnion T post m = (word : ℕ → ℕ) → ((t r : ℕ) → post t r → r ≡ word t) → Union word T most_teams m
