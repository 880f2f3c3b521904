-- What the three calls leave is what their definitions say, once sentences 1 to 8 are passed.
use mathlib.Core.Path.{◌≡◌, ap, ◌∙◌}
use mathlib.Core.List.{List}
use mathlib.Core.Bool.{Bool, false, cond, ◌&&◌, ◌||◌, or-false}
use Rattle.std.specs.Prelude.{Ok}
use Prim.Native.Nat.{ℕ, ◌+◌, ◌%◌, ◌^◌, ◌<◌}
use native.Mathlib.Omega.{arith}
use lib.IntN.{pos}
use lib.ListN.{length, get_or}
use Rattle.std.proofs.Common.{Option, None, Some}
use borrow.Author.Tests.{lt-ltb}
use mir.Syntax.{w64}
use mir.Val.{to_z}
use Rattle.robinx.specs.Sums.{sum_to, cat_to, list_to, only}
use Rattle.robinx.specs.Season.{Instance, decode}
use Rattle.robinx.specs.Timetable.{X}
use Rattle.robinx.specs.Penalty.{penalty}
use Rattle.robinx.specs.Refusals.{sentence2, sentence5}
use Rattle.reader.specs.declared.view.SeasonView.{SeasonView}
use Rattle.reader.proofs.Read.{constraints-read}
use Rattle.robinx.specs.Books.{all_entries, timetable, deviations_at, penalty_at, is_hard, is_soft, total, fresh_ledger, fresh_tally}
use Rattle.robinx.specs.Calls.{Buffers, outcome, opened, Call, moved, touched, stretch_at, gained, change, reworked}
use Rattle.robinx.specs.Touch.{touches}
use Rattle.robinx.specs.declared.Constraint.{Constraint}
use Rattle.robinx.proofs.Passed.{Passed, passed}
use Rattle.robinx.proofs.Demand3.{totals-small}
use Rattle.tables.specs.declared.Tables.{Tables}
use Rattle.tables.specs.Tables.{x_of, Tied}
use Rattle.timetable.specs.OfSheet.{unplaced}
use Rattle.touch.specs.Touched.{MoveOf, touched_by_move, touched_too}
use Rattle.walk.specs.Walk.{is_touched}
use Rattle.walk.specs.Reworked.{instance_of, lent}
use Rattle.replies.specs.Reply.{reply_of}
use Rattle.replies.specs.declared.Accepted.{Accepted}
use Rattle.books.specs.Answer.{Opened, Answered}
use Rattle.touch.specs.declared.moves.Move.{Move}
use Rattle.walk.specs.declared.Touch.{Touch}
use Rattle.walk.specs.declared.books.Books.{Books}
use Rattle.admission.specs.Admission.{Ready}
use Rattle.calls.proofs.Shown.{whole, tied, same-deviations, verdict-is}

-- the sentences that a call has passed
abbrev pub Clean : List ℕ → Buffers → Type 0
Clean s b = Passed s b.sheet (length b.ledger) (length b.tally)

pub ready-passed : {s : List ℕ} {b : Buffers} {u : ℕ} {t : Tables} → Ready s b u t → Clean s b
ready-passed {s} {b} r = passed s b r.passed

-- a total that is small is its own two's complement
signed-small : (v : ℕ) → v < 2 ^ 60 → to_z w64 v ≡ pos v
signed-small v h = rw (lt-ltb v (2 ^ 63) (omega arith))

-- the tables of a call's sheet are tied
pub tied-now : {s : List ℕ} {b : Buffers} {u : ℕ} {t : Tables} → Ready s b u t → Tied (decode s).n t
tied-now {s} {b} r = tied s b.sheet (length b.ledger) (length b.tally) (ready-passed r) r.tables

-- .. and its ledger and tally are books of the season
pub record BooksFit (season : SeasonView) (ledger tally : List ℕ) : Type 0 where
  pub sizes : sentence2 (decode season.bytes.now) ≡ false
  pub rules : sentence5 (decode season.bytes.now) ≡ false
  pub ledger-length : length ledger ≡ all_entries (decode season.bytes.now)
  pub tally-length : length tally ≡ season.sizes.constraints + 2

pub books-fit : {season : SeasonView} {s : List ℕ} {b : Buffers} {u : ℕ} {t : Tables} → season.bytes.now ≡ s → Ready s b u t
    → BooksFit season b.ledger b.tally
books-fit {season} {s} {b} same r =
    let p = ready-passed r in
    let lengths = whole s b.sheet (length b.ledger) (length b.tally) p in
    record {
      sizes = rw same p.s2;
      rules = rw same p.s5;
      ledger-length = rw same lengths.1;
      tally-length = rw (constraints-read _ season.measured.sizes, same) lengths.2;
    }

exact : (v : ℕ) → v < 2 ^ 60 → v % 2 ^ 64 ≡ v
exact v h = omega arith

-- Figures are functions of the deviations: equal deviations give equal penalties, and equal sums of them.
module _ (m : Instance) (x y : X) (same : deviations_at m x ≡ deviations_at m y) where
  penalties-same : penalty_at m x ≡ penalty_at m y
  penalties-same = ap {B = ℕ → ℕ} (λ (d : ℕ → List ℕ) (c : ℕ). penalty (m.constraint c) (d c)) same

  sum-same : (counts : ℕ → Bool) → sum_to (λ c. only (counts c) (penalty_at m x c)) m.C ≡ sum_to (λ c. only (counts c) (penalty_at m y c)) m.C
  sum-same counts = ap (λ (p : ℕ → ℕ). sum_to (λ c. only (counts c) (p c)) m.C) penalties-same

pub open_is : {s : List ℕ} {b : Buffers} {u : ℕ} {t : Tables} {new : Books} {a : Accepted}
    → Ready s b u t → Opened (decode s) (x_of t.meets) u new a
    → outcome (reply_of (Ok a)) (lent b.sheet new) ≡ opened (decode s) b.sheet
unfolding opened fresh_ledger fresh_tally total
open_is {s} {b} {u = u} r w =
    let m = decode s in
    let x = timetable m b.sheet in
    let p = ready-passed r in
    let small = totals-small s b.sheet (length b.ledger) (length b.tally) p in
    let same = same-deviations s b.sheet (length b.ledger) (length b.tally) p r.tables in
    let all : (want : Constraint → Bool) → total want m _ % 2 ^ 64 ≡ total want m x =
    λ want. ap (λ (v : ℕ). v % 2 ^ 64) (sum-same m _ _ same (λ c. want (m.constraint c))) ∙ exact _ (small want) in
    rw (
      w.verdict,
      w.ledger-is,
      w.tally-is,
      w.totals.hard ∙ all is_hard,
      w.totals.soft ∙ all is_soft,
      ap (λ (d : ℕ → List ℕ). cat_to d m.C) same,
      ap (λ (p : ℕ → ℕ). list_to p m.C) (penalties-same m _ _ same),
      signed-small _ (small is_hard),
      signed-small _ (small is_soft),
      verdict-is m b.sheet u _ r.count,
    )

-- an accepted call's outcome, by the tables of the sheet after it and a count of its unplaced games
pub reworked-is : {old new : Books} (sheet : List ℕ) {t : ℕ → Bool} {x : X} {u : ℕ} {a : Accepted} (k : Call)
    → Answered old t x u new a → t ≡ touched (instance_of old) sheet k
    → deviations_at (instance_of old) x ≡ deviations_at (instance_of old) (timetable (instance_of old) (moved sheet k))
    → u ≡ unplaced (moved sheet k) (instance_of old).G
    → outcome (reply_of (Ok a)) (lent (moved sheet k) new) ≡ reworked (instance_of old) (lent sheet old) k
unfolding reworked change gained
reworked-is {old} sheet {t} {x} {u} k w et same eu =
    let m = instance_of old in
    let y = timetable m (moved sheet k) in
    rw (
      w.verdict,
      w.ledger-is,
      w.tally-is,
      w.hard,
      w.soft,
      ap (λ (d : ℕ → List ℕ). cat_to (λ c. cond (t c) (d c) (stretch_at m old.ledger.now c)) m.C) same,
      ap (λ (p : ℕ → ℕ). list_to (λ c. cond (t c) (p c) (get_or old.tally.now c 0)) m.C) (penalties-same m x y same),
      sum-same m x y same (λ c. t c && is_hard (m.constraint c)),
      sum-same m x y same (λ c. t c && is_soft (m.constraint c)),
      verdict-is m (moved sheet k) u _ eu,
      et,
    )

-- a walk that reworks what one or two moves touch
abbrev pub OfMoves : Touch → Move → Option Move → Type 0
OfMoves τ v w = (c : Constraint) → is_touched τ c ≡ touched_by_move v c || touched_too w c

-- game g goes from the slot of byte a to that of byte b
abbrev pub Moves : Instance → ℕ → ℕ → ℕ → Move → Type 0
Moves m g a b v = MoveOf (get_or m.home g 0) (get_or m.away g 0) a b v

module _ (m : Instance) (sheet : List ℕ) (τ : Touch) {first : Move} where
  -- what a set's move touches
  pub set-touched : OfMoves τ first None → (g b : ℕ) → Moves m g (get_or sheet g 0) b first
      → (λ c. is_touched τ (m.constraint c)) ≡ touched m sheet (Call.set_slot g b)
  unfolding touched touches
  set-touched w g b e = λ i c. here c i
    where
      here : (c : ℕ) → is_touched τ (m.constraint c) ≡ touched m sheet (Call.set_slot g b) c
      here c = w (m.constraint c) ∙ rw (e.home, e.away, e.from, e.to) (or-false (touches (m.constraint c) (get_or m.home g 0) (get_or m.away g 0) (get_or sheet g 0) b))

  -- the two moves of an exchange
  pub exchange-touched : {second : Move} → OfMoves τ first (Some second) → (g h : ℕ)
      → Moves m g (get_or sheet g 0) (get_or sheet h 0) first → Moves m h (get_or sheet h 0) (get_or sheet g 0) second
      → (λ c. is_touched τ (m.constraint c)) ≡ touched m sheet (Call.exchange g h)
  unfolding touched
  exchange-touched w g h e d = λ i c. here c i
    where
      here : (c : ℕ) → is_touched τ (m.constraint c) ≡ touched m sheet (Call.exchange g h) c
      here c = w (m.constraint c) ∙ rw (e.home, e.away, e.from, e.to, d.home, d.away, d.from, d.to)
