-- The three demands, each one statement about `open_call`, `set_call` and `exchange_call` (Calls.antt), which are what the exported calls are
-- proved to do. Their theorems are `demand-1`, `demand-2` and `demand-3` in the files Demand1, Demand2 and Demand3 of proofs/.
use Rattle.std.specs.Prelude.{◌≡◌, ◌≢◌, ◌↔◌, List, [], ◌∷◌, ◌++◌, length, get_or, Bool, true, false, ◌&&◌, ◌||◌}
use Rattle.std.specs.Prelude.{ℕ, zero, suc, ◌+◌, ◌<◌, eqb, ℤ, pos, ◌+ℤ◌}
use Rattle.robinx.specs.Sums.{sum_to, only}
use Rattle.robinx.specs.Season.{Instance, decode}
use Rattle.robinx.specs.Timetable.{X}
use Rattle.robinx.specs.Books.{timetable, deviations_at, penalty_at, entries_at, start_at, all_entries, is_hard, is_soft}
use Rattle.robinx.specs.Refusals.{Sentence, sentence}
use Rattle.robinx.specs.Calls.{Buffers, buffers, Outcome, Call, of_buffers, of_call, open_call, call_on, set_call, exchange_call, stretch_at}
use Rattle.robinx.specs.PlainSheet.{plain_fault, plain_next, plain_after, changes}
use Rattle.robinx.specs.declared.Reply.{Reply}

-- ---- Demand 1: the first true sentence is the refusal, with none the call is accepted, and a refusal changes nothing (docs/FORMAT.md,
-- section 6). That no call leaves the ends of what is lent to it, and that each returns, is shown of the code and is no part of this.

-- the numbers of sentences
unfoldable pub numbers : List Sentence → List ℕ
numbers [] = []
numbers (sentence number truth ∷ l) = number ∷ numbers l

-- sentence r is among them and true
unfoldable pub is_true : List Sentence → ℕ → Bool
is_true [] r = false
is_true (sentence number truth ∷ l) r = truth && eqb number r || is_true l r

-- sentence r is true, and none with a smaller number is; there is at most one such r
pub record First (l : List Sentence) (r : ℕ) : Type 0 where
  pub itself : is_true l r ≡ true
  pub earlier : (q : ℕ) → q < r → is_true l q ≡ false

-- A call on the buffers b that reads the sentences l, with these numbers, has the outcome o. The season is lent for reading only, so it is
-- no part of b.
pub record Judged (reads : List ℕ) (l : List Sentence) (b : Buffers) (o : Outcome) : Type 0 where
  pub lines : numbers l ≡ reads
  pub refused : (r : ℕ) → (o.reply.declined ≡ true) × (o.reply.number ≡ r) ↔ First l r
  pub accepted : o.reply.declined ≡ false ↔ ((r : ℕ) → is_true l r ≡ false)
  pub unchanged : o.reply.declined ≡ true → (o.left ≡ b) × (o.reply.infeasibility ≡ pos 0) × (o.reply.objective ≡ pos 0)

-- for any season, sheet, ledger and tally, and any numbers of games and slots
abbrev pub Demand1 : Type 0
Demand1 =
    (season : List ℕ) (b : Buffers)
    → Judged (1 ∷ 2 ∷ 3 ∷ 4 ∷ 5 ∷ 7 ∷ 8 ∷ []) (of_buffers season b) b (open_call season b)
    × ((g s : ℕ)
    → Judged
    (1 ∷ 2 ∷ 3 ∷ 4 ∷ 5 ∷ 7 ∷ 8 ∷ 9 ∷ 10 ∷ 13 ∷ [])
    (of_buffers season b ++ of_call (decode season) b.sheet (Call.set_slot g s))
    b
    (set_call season b g s))
    × ((g h : ℕ)
    → Judged
    (1 ∷ 2 ∷ 3 ∷ 4 ∷ 5 ∷ 7 ∷ 8 ∷ 9 ∷ 11 ∷ 12 ∷ 13 ∷ [])
    (of_buffers season b ++ of_call (decode season) b.sheet (Call.exchange g h))
    b
    (exchange_call season b g h))

-- ---- Books that nothing but the calls wrote: those after an accepted opening and a list of calls. Demands 2 and 3 are about them.

-- the next call gets the same season, and the buffers as o left them
abbrev pub next : List ℕ → Outcome → Call → Outcome
next season o k = call_on season o.left k

-- the outcome of the last call of a list; o is the one before the list
unfoldable pub last : List ℕ → Outcome → List Call → Outcome
last season o [] = o
last season o (k ∷ ks) = last season (next season o k) ks

-- ---- Demand 2: deviations, penalties, totals and verdict are those that RobinX, section 3.2, gives for the sheet (docs/FORMAT.md, sections
-- 1, 3, 4).

-- The books, word by word, where the timetable of the sheet is x: the deviations of constraint c stand in its own stretch of the ledger, none
-- left out; word c of the tally is its penalty, and the last two are the sums of the penalties of hard and of soft constraints.
pub record RightFigures (m : Instance) (x : X) (ledger tally : List ℕ) : Type 0 where
  pub cells : length ledger ≡ all_entries m
  pub words : length tally ≡ m.C + 2
  pub count : (c : ℕ) → c < m.C → length (deviations_at m x c) ≡ entries_at m c
  pub deviation : (c k : ℕ) → c < m.C → k < entries_at m c → get_or ledger (start_at m c + k) 0 ≡ get_or (deviations_at m x c) k 0
  pub penalty : (c : ℕ) → c < m.C → get_or tally c 0 ≡ penalty_at m x c
  pub infeasibility : get_or tally m.C 0 ≡ sum_to (λ c. only (is_hard (m.constraint c)) (penalty_at m x c)) m.C
  pub objective : get_or tally (m.C + 1) 0 ≡ sum_to (λ c. only (is_soft (m.constraint c)) (penalty_at m x c)) m.C

-- every game has a slot; some game has none
abbrev pub AllPlaced : Instance → List ℕ → Type 0
AllPlaced m sheet = (g : ℕ) → g < m.G → get_or sheet g 0 ≢ 0

abbrev pub Unplaced : Instance → List ℕ → Type 0
Unplaced m sheet = (g : ℕ) × (g < m.G) × (get_or sheet g 0 ≡ 0)

-- every hard penalty is 0; some hard penalty is not
abbrev pub AllKept : Instance → List ℕ → Type 0
AllKept m sheet = (c : ℕ) → c < m.C → is_hard (m.constraint c) ≡ true → penalty_at m (timetable m sheet) c ≡ 0

abbrev pub Broken : Instance → List ℕ → Type 0
Broken m sheet = (c : ℕ) × (c < m.C) × (is_hard (m.constraint c) ≡ true) × (penalty_at m (timetable m sheet) c ≢ 0)

-- what each verdict means
pub record RightVerdict (m : Instance) (sheet : List ℕ) (v : ℕ) : Type 0 where
  pub feasible : v ≡ 0 ↔ AllPlaced m sheet × AllKept m sheet
  pub unplaced : v ≡ 1 ↔ Unplaced m sheet
  pub infeasible : v ≡ 2 ↔ AllPlaced m sheet × Broken m sheet

-- the books are right for the sheet that is left, and so is the verdict; a refusal has none
pub record Correct (m : Instance) (o : Outcome) : Type 0 where
  pub figures : RightFigures m (timetable m o.left.sheet) o.left.ledger o.left.tally
  pub verdict : o.reply.declined ≡ false → RightVerdict m o.left.sheet o.reply.number

-- after an accepted opening, and after any calls that follow it
abbrev pub Demand2 : Type 0
Demand2 =
    (season : List ℕ) (b : Buffers)
    → (open_call season b).reply.declined ≡ false
    → ((open_call season b).left.sheet ≡ b.sheet)
    × ((calls : List Call) → Correct (decode season) (last season (open_call season b) calls))

-- ---- Demand 3: for every list of calls after an accepted opening, sheet, books and replies are those of the plain sheet (docs/FORMAT.md,
-- section 5; PlainSheet.antt) and of a fresh opening of it.

-- the changes returned, o's included, added up
unfoldable pub added : (Reply → ℤ) → List ℕ → Outcome → List Call → ℤ
added change season o [] = change o.reply
added change season o (k ∷ ks) = change o.reply +ℤ added change season (next season o k) ks

-- A fresh opening of the plain sheet.
abbrev pub afresh : List ℕ → List ℕ → Outcome → Outcome
afresh season plain o = open_call season (buffers plain o.left.ledger o.left.tally)

-- The lent sheet is the plain sheet, and a fresh opening of that is accepted and gives these books.
pub record Fresh (season plain : List ℕ) (o : Outcome) : Type 0 where
  pub sheet : o.left.sheet ≡ plain
  pub opens : (afresh season plain o).reply.declined ≡ false
  pub ledger : o.left.ledger ≡ (afresh season plain o).left.ledger
  pub tally : o.left.tally ≡ (afresh season plain o).left.tally

-- Accepted, with the verdict of a fresh opening, where the plain sheet accepts (number 0); else refused with its number.
abbrev pub Answers : ℕ → Reply → ℕ → Type 0
Answers zero r verdict = (r.declined ≡ false) × (r.number ≡ verdict)
Answers (suc f) r verdict = (r.declined ≡ true) × (r.number ≡ suc f)

-- the figures of a constraint that the change does not touch, its deviations and its penalty, stay
abbrev pub Keeps : Instance → (ℕ → Bool) → Outcome → Outcome → Type 0
Keeps m changed o o' =
    (c : ℕ) → c < m.C → changed c ≡ false
    → (stretch_at m o'.left.ledger c ≡ stretch_at m o.left.ledger c) × (get_or o'.left.tally c 0 ≡ get_or o.left.tally c 0)

-- What holds of one call k: o and the plain sheet are as before it, o' is as after it.
pub record Right (season plain : List ℕ) (o : Outcome) (k : Call) (o' : Outcome) : Type 0 where
  pub fresh : Fresh season (plain_next (decode season) plain k) o'
  pub answer : Answers (plain_fault (decode season) plain k) o'.reply (afresh season (plain_next (decode season) plain k) o').reply.number
  pub keeps : Keeps (decode season) (changes (decode season) plain k) o o'

-- .. of every call of a list
abbrev pub AllRight : List ℕ → List ℕ → Outcome → List Call → Type 0
AllRight season plain o [] = Unit {0}
AllRight season plain o (k ∷ ks) =
    Right season plain o k (next season o k) × AllRight season (plain_next (decode season) plain k) (next season o k) ks

-- the changes of all replies, the opening's first, add up to the two totals of the last tally
abbrev pub AddsUp : List ℕ → Outcome → List Call → Type 0
AddsUp season o ks =
    (added (λ (r : Reply). r.infeasibility) season o ks ≡ pos (get_or (last season o ks).left.tally (decode season).C 0))
    × (added (λ (r : Reply). r.objective) season o ks ≡ pos (get_or (last season o ks).left.tally ((decode season).C + 1) 0))

abbrev pub Demand3 : Type 0
Demand3 =
    (season : List ℕ) (b : Buffers)
    → (open_call season b).reply.declined ≡ false
    → (calls : List Call)
    → Fresh season b.sheet (open_call season b)
    × AllRight season b.sheet (open_call season b) calls
    × Fresh season (plain_after (decode season) b.sheet calls) (last season (open_call season b) calls)
    × AddsUp season (open_call season b) calls
