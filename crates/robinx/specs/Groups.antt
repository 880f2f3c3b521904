-- Groups of teams and of slots. A group is a number whose bit k stands for member k; how many bits it may have is no matter here.
-- Slots count from 0 in here, as the bits of S do: member k of S is slot k + 1 of the sheet.
use Rattle.std.specs.Prelude.{Bool, ◌&&◌, ℕ, ◌/◌, ◌%◌, ◌^◌, eqb, leb, ltb}
use Rattle.robinx.specs.Sums.{sum_to, only}

abbrev pub bit : ℕ → ℕ → ℕ
bit T k = T / 2 ^ k % 2

-- k is in the group
abbrev pub has : ℕ → ℕ → Bool
has T k = eqb (bit T k) 1

-- k is at or before the last member
abbrev pub reaches : ℕ → ℕ → Bool
reaches T k = leb (2 ^ k) T

-- how many members below n the group has; a valid group has no others, so this counts its set bits (FORMAT 2.3)
unfoldable pub size : ℕ → ℕ → ℕ
size n T = sum_to (λ t. only (has T t) 1) n

-- both are members, and i is the lower one
abbrev pub is_pair : ℕ → ℕ → ℕ → Bool
is_pair T i j = has T i && has T j && ltb i j

-- the number of pairs of members
unfoldable pub pairs : ℕ → ℕ → ℕ
pairs n T = sum_to (λ i. sum_to (λ j. only (is_pair T i j) 1) n) n
