-- Rows of bytes, a place for each slot, and what is read off them.
use Rattle.std.specs.Prelude.{List, ◌≡◌, ℕ, zero, suc, ◌+◌, ◌-◌, ◌*◌, ◌<◌, min, get_or, set}
use Rattle.robinx.specs.Sums.{sum_to, max_to, dist}
use Rattle.robinx.specs.Groups.{bit}
use Rattle.robinx.specs.Deviations.{outside, in_run}

-- the row holds f at each place below n
abbrev pub Holds : List ℕ → (ℕ → ℕ) → ℕ → Type 0
Holds row f n = (k : ℕ) → k < n → get_or row k 0 ≡ f k

-- 255 for a slot of the mask, else 0
abbrev pub marked : ℕ → ℕ → ℕ
marked s k = bit s k * 255

-- A stretch of an array of any length: the numbers from place a on, that they are those of f, and the array with f written there
abbrev pub row_at : List ℕ → ℕ → ℕ → ℕ
row_at rows a k = get_or rows (a + k) 0

abbrev pub HoldsAt : List ℕ → ℕ → (ℕ → ℕ) → ℕ → Type 0
HoldsAt rows a f n = (k : ℕ) → k < n → row_at rows a k ≡ f k

unfoldable pub laid_at : List ℕ → ℕ → (ℕ → ℕ) → ℕ → List ℕ
laid_at rows a f zero = rows
laid_at rows a f (suc k) = set (laid_at rows a f k) (a + k) (f k)

-- how many of the slots up to k the mask has
abbrev pub up_to : ℕ → ℕ → ℕ
up_to v k = sum_to (bit v) (suc k)

-- a row in one word, a byte for a place: the word of f 0, .., f (n − 1), the first lowest
unfoldable pub packed : (ℕ → ℕ) → ℕ → ℕ
packed f zero = 0
packed f (suc n) = f 0 + packed (λ j. f (suc j)) n * 256

-- the largest distance of f and g at the first n places, each counted up to what the row e has there
unfoldable pub farthest_to : List ℕ → (ℕ → ℕ) → (ℕ → ℕ) → ℕ → ℕ
farthest_to e f g n = max_to (λ k. min (get_or e k 0) (dist (f k) (g k))) n

-- how far the row's increase over w places from k on is outside low .. high
abbrev pub off_run : List ℕ → ℕ → ℕ → ℕ → ℕ → ℕ
off_run row w low high k = outside low high (get_or row (k + w) 0 - get_or row k 0)

-- .. summed over the first n places
unfoldable pub runs_to : List ℕ → ℕ → ℕ → ℕ → ℕ → ℕ
runs_to row w low high n = sum_to (off_run row w low high) n

-- how far the sums of f in the runs of w places are outside low .. high, summed over the first n runs
abbrev pub off_in_runs : (ℕ → ℕ) → ℕ → ℕ → ℕ → ℕ → ℕ
off_in_runs f w low high n = sum_to (λ a. outside low high (in_run f w a)) n
