-- Open, set and exchange as functions of what is lent to them (FORMAT 5): for every input they give
-- the reply and the final contents of sheet, ledger and tally. Set and exchange keep what they do not touch; that what they keep is
-- right is no part of their text.
use Rattle.std.specs.Prelude.{List, [], ◌∷◌, ◌++◌, length, get_or, set, take, drop, Bool, true, false, ◌&&◌, ◌||◌, cond}
use Rattle.std.specs.Prelude.{ℕ, zero, suc, ◌+◌, ◌-◌, ◌%◌, ◌^◌, ℤ, pos}
use Rattle.std.specs.Int.{w64}
use Rattle.std.proofs.Common.{to_z}
use Rattle.robinx.specs.Sums.{sum_to, cat_to, list_to, only}
use Rattle.robinx.specs.Season.{Instance, decode}
use Rattle.robinx.specs.Timetable.{X}
use Rattle.robinx.specs.Touch.{touches}
use Rattle.robinx.specs.Books.{timetable, deviations_at, penalty_at, entries_at, start_at, is_hard, is_soft, total, fresh_ledger, fresh_tally, verdict}
use Rattle.robinx.specs.Refusals.{Sentence, sentence, first_true, of_season, of_sheet, sentence9, sentence10, sentence11, sentence12, sentence13}
use Rattle.robinx.specs.declared.Constraint.{Constraint}
use Rattle.robinx.specs.declared.Reply.{Reply}

-- the lent buffers that a call may write; the season is lent for reading only
pub record Buffers : Type 0 where
  pub sheet : List ℕ
  pub ledger : List ℕ
  pub tally : List ℕ

abbrev pub buffers : List ℕ → List ℕ → List ℕ → Buffers
buffers sheet ledger tally = record { sheet = sheet; ledger = ledger; tally = tally }

-- what a call answers, and what it leaves in the buffers
pub record Outcome : Type 0 where
  pub reply : Reply
  pub left : Buffers

abbrev pub outcome : Reply → Buffers → Outcome
outcome reply left = record { reply = reply; left = left }

-- a refusal: marked as declined, with its number and no change
abbrev pub declined : ℕ → Reply
declined number = record { declined = true; number = number; infeasibility = pos 0; objective = pos 0 }

abbrev pub accepted : ℕ → ℤ → ℤ → Reply
accepted number infeasibility objective =
    record { declined = false; number = number; infeasibility = infeasibility; objective = objective }

-- the accepted outcome where no sentence is true; else the refusal, with the buffers as they were
abbrev pub unless_refused : ℕ → Outcome → Buffers → Outcome
unless_refused zero done b = done
unless_refused (suc r) done b = outcome (declined (suc r)) b

-- the sentences about season and buffers
abbrev pub of_buffers : List ℕ → Buffers → List Sentence
of_buffers season b = of_season season ++ of_sheet (decode season) b.sheet (length b.ledger) (length b.tally)

-- Open works everything out from the proposed sheet. Its changes are the totals themselves.
unfoldable pub open_fault : List ℕ → Buffers → ℕ
open_fault season b = first_true (of_buffers season b)

-- a sheet with its fresh books
abbrev pub fresh_buffers : Instance → List ℕ → Buffers
fresh_buffers m sheet = buffers sheet (fresh_ledger m sheet) (fresh_tally m sheet)

unfoldable pub opened : Instance → List ℕ → Outcome
opened m sheet =
    outcome
    (accepted
    (verdict m sheet (total is_hard m (timetable m sheet)))
    (pos (total is_hard m (timetable m sheet)))
    (pos (total is_soft m (timetable m sheet))))
    (fresh_buffers m sheet)

unfoldable pub open_call : List ℕ → Buffers → Outcome
open_call season b = unless_refused (open_fault season b) (opened (decode season) b.sheet) b

-- Set puts a game into a slot, or out of its slot by 0. Exchange gives each of two games the slot of the other.
pub data Call : Type 0 where
  set_slot exchange : ℕ → ℕ → Call

-- the sheet as a call would leave it
unfoldable pub moved : List ℕ → Call → List ℕ
moved sheet (set_slot g s) = set sheet g s
moved sheet (exchange g h) = set (set sheet g (get_or sheet h 0)) h (get_or sheet g 0)

-- the sentences about the numbers of a call, in checking order
abbrev pub of_call : Instance → List ℕ → Call → List Sentence
of_call m sheet (set_slot g s) =
    sentence 9 (sentence9 m g)
    ∷ sentence 10 (sentence10 m s)
    ∷ sentence 13 (sentence13 m (moved sheet (set_slot g s)))
    ∷ []
of_call m sheet (exchange g h) =
    sentence 9 (sentence9 m g || sentence9 m h)
    ∷ sentence 11 (sentence11 g h)
    ∷ sentence 12 (sentence12 sheet g h)
    ∷ sentence 13 (sentence13 m (moved sheet (exchange g h)))
    ∷ []

-- the change of game g to slot b touches constraint number c
abbrev pub touched_by : Instance → List ℕ → ℕ → ℕ → ℕ → Bool
touched_by m sheet g b c = touches (m.constraint c) (get_or m.home g 0) (get_or m.away g 0) (get_or sheet g 0) b

-- an exchange is two changes
unfoldable pub touched : Instance → List ℕ → Call → ℕ → Bool
touched m sheet (set_slot g s) c = touched_by m sheet g s c
touched m sheet (exchange g h) c = touched_by m sheet g (get_or sheet h 0) c || touched_by m sheet h (get_or sheet g 0) c

-- constraint c's own stretch of a ledger
unfoldable pub stretch_at : Instance → List ℕ → ℕ → List ℕ
stretch_at m ledger c = take (entries_at m c) (drop (start_at m c) ledger)

-- a touched constraint's figures are worked out on the new sheet, any other's are as they were; t says which are touched
abbrev pub reworked_stretch : Instance → (ℕ → Bool) → X → List ℕ → ℕ → List ℕ
reworked_stretch m t x ledger c = cond (t c) (deviations_at m x c) (stretch_at m ledger c)

abbrev pub reworked_penalty : Instance → (ℕ → Bool) → X → List ℕ → ℕ → ℕ
reworked_penalty m t x tally c = cond (t c) (penalty_at m x c) (get_or tally c 0)

-- The change of a total: over the touched constraints that it sums up, their new penalties less the ones that the tally held, modulo 2^64.
unfoldable pub gained : (Constraint → Bool) → Instance → (ℕ → Bool) → X → ℕ → ℕ
gained want m t x k = sum_to (λ c. only (t c && want (m.constraint c)) (penalty_at m x c)) k

unfoldable pub lost : (Constraint → Bool) → Instance → (ℕ → Bool) → List ℕ → ℕ → ℕ
lost want m t tally k = sum_to (λ c. only (t c && want (m.constraint c)) (get_or tally c 0)) k

unfoldable pub change : (Constraint → Bool) → Instance → (ℕ → Bool) → X → List ℕ → ℕ
change want m t x tally = (gained want m t x m.C + (2 ^ 64 - lost want m t tally m.C % 2 ^ 64)) % 2 ^ 64

-- a total moved by its change
abbrev pub moved_total : ℕ → ℕ → ℕ
moved_total old d = (old + d) % 2 ^ 64

-- The outcome of an accepted set or exchange, for any books: the reply reads the changes as two's complement, and the verdict from the
-- moved total.
unfoldable pub reworked : Instance → Buffers → Call → Outcome
reworked m b k =
    let after = moved b.sheet k in
    let x = timetable m after in
    let t = touched m b.sheet k in
    let hard = change is_hard m t x b.tally in
    let soft = change is_soft m t x b.tally in
    let infeasibility = moved_total (get_or b.tally m.C 0) hard in
    let objective = moved_total (get_or b.tally (m.C + 1) 0) soft in
    outcome
    (accepted (verdict m after infeasibility) (to_z w64 hard) (to_z w64 soft))
    (buffers
    after
    (cat_to (reworked_stretch m t x b.ledger) m.C)
    (list_to (reworked_penalty m t x b.tally) m.C ++ infeasibility ∷ objective ∷ []))

unfoldable pub call_fault : List ℕ → Buffers → Call → ℕ
call_fault season b k = first_true (of_buffers season b ++ of_call (decode season) b.sheet k)

-- a call on a season and its buffers
unfoldable pub call_on : List ℕ → Buffers → Call → Outcome
call_on season b k = unless_refused (call_fault season b k) (reworked (decode season) b k) b

abbrev pub set_call : List ℕ → Buffers → ℕ → ℕ → Outcome
set_call season b g s = call_on season b (set_slot g s)

abbrev pub exchange_call : List ℕ → Buffers → ℕ → ℕ → Outcome
exchange_call season b g h = call_on season b (exchange g h)
