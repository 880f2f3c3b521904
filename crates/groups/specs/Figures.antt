-- The figures of a group's members and of their pairs. What a figure asks and gives is a fact of the team, or of two; the group may be one of any
-- n teams.
use Rattle.std.specs.Prelude.{◌≡◌, List, true, ℕ, ◌^◌, ◌<◌, ◌≤◌}
use Rattle.robinx.specs.Season.{most_teams}
use Rattle.robinx.specs.Sums.{sum_to, only}
use Rattle.robinx.specs.Groups.{has}
use Rattle.robinx.specs.Deviations.{each, each_pair}

-- the fact holds of each member below n
abbrev pub OfMembers : ℕ → ℕ → (ℕ → Type 0) → Type 0
OfMembers n T P = (t : ℕ) → t < n → has T t ≡ true → P t

-- .. and of each pair, lower one first
abbrev pub OfPairs : ℕ → ℕ → (ℕ → ℕ → Type 0) → Type 0
OfPairs n T P = (i j : ℕ) → i < j → j < n → has T i ≡ true → has T j ≡ true → P i j

-- the figures are f's: whatever may be given at a member t is f t
abbrev pub Gives : ℕ → ℕ → (ℕ → ℕ → Type 0) → (ℕ → ℕ) → Type 0
Gives n T post f = OfMembers n T (λ t. (r : ℕ) → post t r → r ≡ f t)

abbrev pub GivesPairs : ℕ → ℕ → (ℕ → ℕ → ℕ → Type 0) → (ℕ → ℕ → ℕ) → Type 0
GivesPairs n T post f = OfPairs n T (λ i j. (r : ℕ) → post i j r → r ≡ f i j)

-- the list has the figure of each member, lowest first, whichever number up to m the members are below
abbrev pub FigureOfEach : ℕ → ℕ → (ℕ → ℕ → Type 0) → List ℕ → Type 0
FigureOfEach m T post l = (n : ℕ) (f : ℕ → ℕ) → n ≤ m → T < 2 ^ n → Gives n T post f → l ≡ each n T f

-- .. of teams
abbrev pub EachFigure : ℕ → (ℕ → ℕ → Type 0) → List ℕ → Type 0
EachFigure = FigureOfEach most_teams

-- .. of each pair
abbrev pub EachPairFigure : ℕ → (ℕ → ℕ → ℕ → Type 0) → List ℕ → Type 0
EachPairFigure T post l = (n : ℕ) (f : ℕ → ℕ → ℕ) → n ≤ most_teams → T < 2 ^ n → GivesPairs n T post f → l ≡ each_pair n T f

-- v is the sum of the members' figures
abbrev pub TotalFigure : ℕ → (ℕ → ℕ → Type 0) → ℕ → Type 0
TotalFigure T post v = (n : ℕ) (f : ℕ → ℕ) → n ≤ most_teams → T < 2 ^ n → Gives n T post f → v ≡ sum_to (λ t. only (has T t) (f t)) n
