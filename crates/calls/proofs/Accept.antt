-- What the numbers of a set or an exchange tell before and after the tables are tried.
use mathlib.Core.Path.{◌≡◌, sym}
use mathlib.Core.List.{List}
use mathlib.Core.Bool.{Bool, true, false, ◌||◌}
use Prim.Native.Nat.{ℕ, ◌+◌, ◌-◌, ◌<◌, ◌≤◌}
use Rattle.std.specs.Prelude.{Ok}
use native.Mathlib.Omega.{arith}
use lib.Dec.{eqb}
use lib.ListN.{length, get_or, set, length-set}
use lib.Seq.{get_or-set_other}
use borrow.Author.Tests.{lt-leb, le-ltb, ne_eqb, not-true, not-false}
use Rattle.std.proofs.lemmas.Bool.{or_parts}
use Rattle.robinx.specs.Sums.{only}
use Rattle.robinx.specs.Season.{Instance, decode, most_teams, most_slots, most_games}
use Rattle.robinx.specs.Timetable.{clash}
use Rattle.robinx.specs.Books.{timetable, deviations_at}
use Rattle.robinx.specs.Refusals.{first_true, sentence9, sentence10, sentence11, sentence12, sentence13}
use Rattle.robinx.specs.Calls.{Buffers, Call, moved, touched, outcome}
use Rattle.robinx.specs.PlainSheet.{plain_fault}
use Rattle.robinx.proofs.Sums.{term-le-sum}
use Rattle.robinx.proofs.Passed.{Passed}
use Rattle.robinx.proofs.Accepted.{length_moved, opens-again}
use Rattle.robinx.proofs.Limits.{Sound, decode-home}
use Rattle.tables.specs.declared.Tables.{Tables}
use Rattle.tables.specs.Tables.{x_of, Tied}
use Rattle.timetable.specs.OfSheet.{InRange, Fits, unplaced}
use Rattle.timetable.proofs.Fewer.{in-range-most}
use Rattle.timetable.proofs.FirstGames.{unplaced-set, unplaced-low}
use Rattle.walk.specs.Reworked.{instance_of, lent}
use Rattle.walk.specs.declared.books.Books.{Books}
use Rattle.replies.specs.Reply.{reply_of}
use Rattle.replies.specs.declared.Accepted.{Accepted}
use Rattle.books.specs.Answer.{Answered}
use Rattle.admission.specs.Admission.{Ready, after_entry}
use Rattle.calls.proofs.Shown.{is-sound, whole, range, tied, same-deviations}
use Rattle.calls.proofs.Outcomes.{Clean, ready-passed, reworked-is}

-- the sheet after an accepted call passes sentences 1 to 8 too
pub passes-again : (s sheet : List ℕ) (L T : ℕ) (k : Call) → Passed s sheet L T → plain_fault (decode s) sheet k ≡ 0 → Passed s (moved sheet k) L T
passes-again s sheet L T k p e = record {
  s1 = p.s1;
  s2 = p.s2;
  s3 = p.s3;
  s4 = p.s4;
  s5 = p.s5;
  s7 = rw (length_moved sheet k) p.s7;
  s8 = opens-again (decode s) sheet (whole s sheet L T p).0 p.s8 k e;
}

-- The tables took the call: they are those of the sheet after it, which no sentence refuses.
pub record Taken (m : Instance) (sheet : List ℕ) (k : Call) (t : Tables) : Type 0 where
  pub passes : plain_fault m sheet k ≡ 0
  pub fits : Fits most_teams true t m.home m.away (moved sheet k)

-- a call that passed sentences 1 to 8 may try its tables
module _ {s : List ℕ} {t : Tables} {b : Buffers} {u : ℕ} (r : Ready s b u t) where
  clean : Clean s b
  clean = ready-passed r

  pub range-most : InRange most_teams (decode s).home (decode s).away b.sheet
  range-most = in-range-most (range s b.sheet (length b.ledger) (length b.tally) clean)

  as-many-games : length (decode s).home ≡ (decode s).G
  as-many-games = decode-home s clean.s3

  pub as-many-slots : length b.sheet ≡ (decode s).G
  as-many-slots = (whole s b.sheet (length b.ledger) (length b.tally) clean).0

  sizes-sound : Sound (decode s)
  sizes-sound = is-sound s b.sheet (length b.ledger) (length b.tally) clean

  pub few-slots : (decode s).P ≤ most_slots
  few-slots = sizes-sound.slots

  -- a game that has no slot is among the unplaced ones
  pub counted : {g : ℕ} → g < (decode s).G → only (eqb (get_or b.sheet g 0) 0) 1 ≤ u
  counted {g} l = omega (arith, r.count, term-le-sum (λ h. only (eqb (get_or b.sheet h 0) 0) 1) g (decode s).G l)

  pub few-unplaced : u ≤ most_games
  few-unplaced = omega (arith, r.count, unplaced-low b.sheet (decode s).G, sizes-sound.games)

  -- game g has a place in the lists, and a slot that may be
  module _ {g : ℕ} (l : g < (decode s).G) where
    pub in-home : g < length (decode s).home
    in-home = omega (arith, as-many-games)

    pub in-sheet : g < length b.sheet
    in-sheet = omega (arith, as-many-slots)

    pub slot-possible : get_or b.sheet g 0 ≤ most_slots
    slot-possible = range-most.slot-low g in-home

  module _ {t' : Tables} (k : Call) (taken : Taken (decode s) b.sheet k t') where
    again : Passed s (moved b.sheet k) (length b.ledger) (length b.tally)
    again = passes-again s b.sheet (length b.ledger) (length b.tally) k clean taken.passes

    pub tied-after : Tied (decode s).n t'
    tied-after = tied s (moved b.sheet k) (length b.ledger) (length b.tally) again taken.fits

    deviations-after : deviations_at (decode s) (x_of t'.meets) ≡ deviations_at (decode s) (timetable (decode s) (moved b.sheet k))
    deviations-after = same-deviations s (moved b.sheet k) (length b.ledger) (length b.tally) again taken.fits

-- .. and the books are those of that sheet
pub call-is : {old new : Books} {sheet : List ℕ} {u u' : ℕ} {t t' : Tables} {touch : ℕ → Bool} {a : Accepted}
    → Ready old.season.bytes.now (lent sheet old) u t → (k : Call) → Taken (instance_of old) sheet k t' → Answered old touch (x_of t'.meets) u' new a
    → touch ≡ touched (instance_of old) sheet k → u' ≡ unplaced (moved sheet k) (instance_of old).G
    → outcome (reply_of (Ok a)) (lent (moved sheet k) new) ≡ after_entry (instance_of old) (lent sheet old) k
call-is {sheet = sheet} r k taken w et eu = rw taken.passes (reworked-is sheet k w et (deviations-after r k taken) eu)

-- Sentence 13 decides, once the others are passed: the tables took the call, or it has that number.
module _ (m : Instance) (sheet : List ℕ) {g : ℕ} (lg : g < m.G) where
  module _ {b : ℕ} (lb : b ≤ m.P) where
    set-fault : (c : Bool) → clash m.home m.away (set sheet g b) ≡ c → plain_fault m sheet (Call.set_slot g b) ≡ only c 13
    unfolding plain_fault first_true sentence9 sentence10 sentence13 moved
    set-fault true h = rw (lt-leb m.G g lg, le-ltb m.P b lb, h)
    set-fault false h = rw (lt-leb m.G g lg, le-ltb m.P b lb, h)

    pub set-taken : {t : Tables} → Fits most_teams true t m.home m.away (set sheet g b) → Taken m sheet (Call.set_slot g b) t
    unfolding moved
    set-taken f = record { passes = set-fault _ (not-true _ (sym f.no-clash)); fits = f }

    pub set-busy : {t : Tables} → Fits most_teams false t m.home m.away (set sheet g b) → plain_fault m sheet (Call.set_slot g b) ≡ 13
    set-busy f = set-fault _ (not-false _ (sym f.no-clash))

  module _ {h : ℕ} (lh : h < m.G) (differ : g ≡ h → ⊥) (placed : eqb (get_or sheet g 0) 0 || eqb (get_or sheet h 0) 0 ≡ false) where
    -- the sheet after the exchange
    abbrev after : List ℕ
    after = set (set sheet g (get_or sheet h 0)) h (get_or sheet g 0)

    exchange-fault : (c : Bool) → clash m.home m.away after ≡ c → plain_fault m sheet (Call.exchange g h) ≡ only c 13
    unfolding plain_fault first_true sentence9 sentence11 sentence12 sentence13 moved
    exchange-fault true e = rw (lt-leb m.G g lg, lt-leb m.G h lh, ne_eqb g h differ, placed, e)
    exchange-fault false e = rw (lt-leb m.G g lg, lt-leb m.G h lh, ne_eqb g h differ, placed, e)

    pub exchange-taken : {t : Tables} → Fits most_teams true t m.home m.away after → Taken m sheet (Call.exchange g h) t
    unfolding moved
    exchange-taken f = record { passes = exchange-fault _ (not-true _ (sym f.no-clash)); fits = f }

    pub exchange-busy : {t : Tables} → Fits most_teams false t m.home m.away after → plain_fault m sheet (Call.exchange g h) ≡ 13
    exchange-busy f = exchange-fault _ (not-false _ (sym f.no-clash))

-- the count of unplaced games after a set
pub unplaced-after-set : (sheet : List ℕ) (g b G : ℕ) {u left from to : ℕ} → g < G → length sheet ≡ G → u ≡ unplaced sheet G
    → from ≡ only (eqb (get_or sheet g 0) 0) 1 → to ≡ only (eqb b 0) 1 → left ≡ u - from + to → left ≡ unplaced (set sheet g b) G
unplaced-after-set sheet g b G l e eu ef et el =
    omega (arith, unplaced-set sheet g b G l (omega arith), term-le-sum (λ h. only (eqb (get_or sheet h 0) 0) 1) g G l)

-- .. and after an exchange of two placed games: the same
pub unplaced-after-exchange : (sheet : List ℕ) (g h G : ℕ) {u : ℕ} → g < G → h < G → (g ≡ h → ⊥) → length sheet ≡ G → u ≡ unplaced sheet G
    → eqb (get_or sheet g 0) 0 || eqb (get_or sheet h 0) 0 ≡ false → u ≡ unplaced (set (set sheet g (get_or sheet h 0)) h (get_or sheet g 0)) G
unplaced-after-exchange sheet g h G lg lh differ e eu placed =
    let o = or_parts (eqb (get_or sheet g 0) 0) (eqb (get_or sheet h 0) 0) placed in
    let first = rw (o.0, o.1) at (unplaced-set sheet g (get_or sheet h 0) G lg (omega arith)) in
    let second = rw (get_or-set_other sheet g h (get_or sheet h 0) 0 (λ q. differ (sym q)), o.0, o.1)
    at (unplaced-set (set sheet g (get_or sheet h 0)) h (get_or sheet g 0) G lh (rw length-set (omega arith))) in
    omega (arith, first, second)
