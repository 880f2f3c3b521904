-- Masks of slots as plain numbers of any width.
use Rattle.std.specs.Prelude.{◌≡◌, ℕ, ◌+◌, ◌^◌, ◌<◌, ◌≤◌, Bool, ◌&&◌, bit_or, bit_xor}
use Rattle.robinx.specs.Season.{most_slots}
use Rattle.robinx.specs.Sums.{only}
use Rattle.robinx.specs.Groups.{bit, has}
use Rattle.robinx.specs.Timetable.{last_was}

-- the mask with slot k
abbrev pub joined : ℕ → ℕ → ℕ
joined m k = bit_or m (2 ^ k)

-- the mask without slot k
abbrev pub without : ℕ → ℕ → ℕ
without m k = bit_xor (bit_or m (2 ^ k)) (2 ^ k)

-- every slot of m is one of n
abbrev pub Within : ℕ → ℕ → Type 0
Within m n = (k : ℕ) → bit m k ≤ bit n k

-- no slot is in both
abbrev pub Apart : ℕ → ℕ → Type 0
Apart m n = (k : ℕ) → k < most_slots → bit m k + bit n k ≤ 1

-- of the first n slots the mask has those that pass the test
abbrev pub Marks : ℕ → (ℕ → Bool) → ℕ → Type 0
Marks n p m = (k : ℕ) → k < n → has m k ≡ p k

-- slot k has a game of the side, and the last game before it was of the side too
abbrev pub is_break : ℕ → ℕ → ℕ → Bool
is_break side all k = has side k && last_was (has all) (has side) k

-- of the first n slots the mask has those of the side's breaks
abbrev pub Breaks : ℕ → ℕ → ℕ → ℕ → Type 0
Breaks n side all m = (k : ℕ) → k < n → bit m k ≡ only (is_break side all k) 1
