-- Why a call is declined (FORMAT 6): each sentence a test under its number.
use Rattle.std.specs.Prelude.{List, [], ◌∷◌, Bool, true, false, ◌&&◌, ◌||◌, not, ℕ, ◌+◌, eqb, leb, ltb, length, get_or}
use Rattle.robinx.specs.Sums.{sum_to, any_to, only}
use Rattle.robinx.specs.Season.{Instance, decode, season_length, most_teams, most_slots, most_games, most_constraints, most_meetings, most_deviations}
use Rattle.robinx.specs.Rules.{obeys, fits}
use Rattle.robinx.specs.Timetable.{clash}
use Rattle.robinx.specs.Books.{all_entries}
use Rattle.robinx.specs.Summary.{summary_words, summary}

-- 1: the sizes are not all there
unfoldable pub sentence1 : List ℕ → Bool
sentence1 season = ltb (length season) 6

-- 2: a size is too small or too large
unfoldable pub sentence2 : Instance → Bool
sentence2 m =
    not
    (fits 2 most_teams m.n
    && fits 1 most_slots m.P
    && leb m.G most_games
    && leb m.C most_constraints)

-- 3: the length is not the one that the sizes give
unfoldable pub sentence3 : List ℕ → Bool
sentence3 season = not (eqb (length season) (season_length season))

-- game g is between i and j, at either venue
abbrev pub is_between : List ℕ → List ℕ → ℕ → ℕ → ℕ → Bool
is_between home away i j g =
    eqb (get_or home g 0) i && eqb (get_or away g 0) j || eqb (get_or home g 0) j && eqb (get_or away g 0) i

-- how many of the first k games are between i and j
unfoldable pub encounters : List ℕ → List ℕ → ℕ → ℕ → ℕ → ℕ
encounters home away i j k = sum_to (λ g. only (is_between home away i j g) 1) k

-- 4: a game names no team of the season, or has no opponent, or is one of more than 8 between its teams
unfoldable pub bad_game : Instance → ℕ → Bool
bad_game m g =
    leb m.n (get_or m.home g 0)
    || leb m.n (get_or m.away g 0)
    || eqb (get_or m.home g 0) (get_or m.away g 0)
    || ltb most_meetings (encounters m.home m.away (get_or m.home g 0) (get_or m.away g 0) m.G)

unfoldable pub sentence4 : Instance → Bool
sentence4 m = any_to (bad_game m) m.G

-- 5: a constraint does not keep its rules
unfoldable pub sentence5 : Instance → Bool
sentence5 m = any_to (λ c. not (obeys m.n m.P (m.constraint c))) m.C

-- 6: too many deviations for the report program; the calls do not look at this
unfoldable pub sentence6 : Instance → Bool
sentence6 m = ltb most_deviations (all_entries m)

-- 7: a lent buffer has another length than the season asks for
unfoldable pub sentence7 : Instance → ℕ → ℕ → ℕ → Bool
sentence7 m sheet ledger tally = not (eqb sheet m.G && eqb ledger (all_entries m) && eqb tally (m.C + 2))

-- 8: the sheet names no slot of the season, or two games of a team share a slot
unfoldable pub sentence8 : Instance → List ℕ → Bool
sentence8 m sheet = any_to (λ g. ltb m.P (get_or sheet g 0)) m.G || clash m.home m.away sheet

-- 14, which no call reads yet, to be looked at after 8: the summary has not 64 words; open looks at no more
unfoldable pub sentence14_open : List ℕ → Bool
sentence14_open held = not (eqb (length held) summary_words)

-- .. for set and exchange also: a word of it is not the right one
unfoldable pub disagrees : List ℕ → List ℕ → Bool
disagrees held right = sentence14_open held || any_to (λ q. not (eqb (get_or held q 0) (get_or right q 0))) summary_words

unfoldable pub sentence14 : Instance → List ℕ → List ℕ → Bool
sentence14 m sheet held = disagrees held (summary m sheet)

-- 9: there is no such game
unfoldable pub sentence9 : Instance → ℕ → Bool
sentence9 m g = leb m.G g

-- 10: there is no such slot
unfoldable pub sentence10 : Instance → ℕ → Bool
sentence10 m s = ltb m.P s

-- 11: a game cannot be exchanged with itself
unfoldable pub sentence11 : ℕ → ℕ → Bool
sentence11 g h = eqb g h

-- 12: a game to be exchanged has no slot
unfoldable pub sentence12 : List ℕ → ℕ → ℕ → Bool
sentence12 sheet g h = eqb (get_or sheet g 0) 0 || eqb (get_or sheet h 0) 0

-- 13: two games of a team would share a slot, on the sheet as the call would leave it
unfoldable pub sentence13 : Instance → List ℕ → Bool
sentence13 m after = clash m.home m.away after

-- A sentence with its number, and the number of the first true one; 0: none is true.
pub data Sentence : Type 0 where
  sentence : ℕ → Bool → Sentence

unfoldable pub first_true : List Sentence → ℕ
first_true [] = 0
first_true (sentence number true ∷ l) = number
first_true (sentence number false ∷ l) = first_true l

-- the sentences about the season alone
abbrev pub of_season : List ℕ → List Sentence
of_season season =
    sentence 1 (sentence1 season)
    ∷ sentence 2 (sentence2 (decode season))
    ∷ sentence 3 (sentence3 season)
    ∷ sentence 4 (sentence4 (decode season))
    ∷ sentence 5 (sentence5 (decode season))
    ∷ []

-- about a sheet and the lengths of the books lent with it
abbrev pub of_sheet : Instance → List ℕ → ℕ → ℕ → List Sentence
of_sheet m sheet ledger tally =
    sentence 7 (sentence7 m (length sheet) ledger tally) ∷ sentence 8 (sentence8 m sheet) ∷ []
