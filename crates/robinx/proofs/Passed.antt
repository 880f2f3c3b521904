-- The refusals of a call as a list of sentences: what it means that none is true, and that the sentences about season and buffers
-- leave a call with the plain sheet's number.
use mathlib.Core.Path.{◌≡◌, refl, ap, ◌∙◌}
use mathlib.Core.List.{List, [], ◌∷◌, ◌++◌}
use mathlib.Core.Bool.{true, false, true≢false}
use Prim.Native.Nat.{ℕ, zero, suc}
use native.Mathlib.Omega.{arith}
use lib.ListN.{length}
use Rattle.robinx.specs.Season.{decode}
use Rattle.robinx.specs.Refusals.{Sentence, sentence, first_true, of_season, of_sheet, sentence1, sentence2, sentence3, sentence4, sentence5, sentence7, sentence8}
use Rattle.robinx.specs.Calls.{Buffers, Outcome, Call, unless_refused, of_buffers, of_call, open_fault, opened, open_call, call_fault}
use Rattle.robinx.specs.PlainSheet.{plain_fault}
use Rattle.robinx.specs.RefusalNumbers.{number_of}
use Rattle.robinx.specs.declared.Refusal.{Refusal}

-- no sentence is true
abbrev pub Clear : List Sentence → Type 0
Clear [] = Unit {0}
Clear (sentence zero b ∷ l) = Unit {0}
Clear (sentence (suc n) b ∷ l) = (b ≡ false) × Clear l

pub none_true : (l : List Sentence) → first_true l ≡ 0 → Clear l
unfolding first_true
none_true [] h = tt
none_true (sentence zero b ∷ l) h = tt
none_true (sentence (suc n) true ∷ l) h = let z : ⊥ = omega arith in absurd z
none_true (sentence (suc n) false ∷ l) h = (refl, none_true l h)

-- the first number of two that is not 0
abbrev pub or_else : ℕ → ℕ → ℕ
or_else zero b = b
or_else (suc a) b = suc a

-- no sentence has the number 0
abbrev pub Numbered : List Sentence → Type 0
Numbered [] = Unit {0}
Numbered (sentence zero b ∷ l) = ⊥
Numbered (sentence (suc n) b ∷ l) = Numbered l

pub first-of-both : (l r : List Sentence) → Numbered l → first_true (l ++ r) ≡ or_else (first_true l) (first_true r)
unfolding first_true
first-of-both [] r h = refl
first-of-both (sentence zero b ∷ l) r h = absurd h
first-of-both (sentence (suc n) true ∷ l) r h = refl
first-of-both (sentence (suc n) false ∷ l) r h = first-of-both l r h

-- a call that is not declined has no fault
pub no-fault : (f : ℕ) (done : Outcome) (b : Buffers) → (unless_refused f done b).reply.declined ≡ false → f ≡ 0
no-fault zero done b h = refl
no-fault (suc f) done b h = absurd (true≢false h)

-- the season and the buffers, with ledger and tally of these lengths, have no fault
pub record Passed (season sheet : List ℕ) (ledger tally : ℕ) : Type 0 where
  pub s1 : sentence1 season ≡ false
  pub s2 : sentence2 (decode season) ≡ false
  pub s3 : sentence3 season ≡ false
  pub s4 : sentence4 (decode season) ≡ false
  pub s5 : sentence5 (decode season) ≡ false
  pub s7 : sentence7 (decode season) (length sheet) ledger tally ≡ false
  pub s8 : sentence8 (decode season) sheet ≡ false

pub all-passed : (season sheet : List ℕ) (ledger tally : ℕ)
    → first_true (of_season season ++ of_sheet (decode season) sheet ledger tally) ≡ 0 → Passed season sheet ledger tally
all-passed season sheet ledger tally h =
    let c = none_true (of_season season ++ of_sheet (decode season) sheet ledger tally) h in
    record {
      s1 = c.0;
      s2 = c.1.0;
      s3 = c.1.1.0;
      s4 = c.1.1.1.0;
      s5 = c.1.1.1.1.0;
      s7 = c.1.1.1.1.1.0;
      s8 = c.1.1.1.1.1.1.0;
    }

module _ (season : List ℕ) (b : Buffers) where
  pub open-no-fault : (open_call season b).reply.declined ≡ false → open_fault season b ≡ 0
  unfolding open_call
  open-no-fault h = no-fault (open_fault season b) _ _ h

  -- an opening that is not declined works everything out
  pub opens-fresh : (open_call season b).reply.declined ≡ false → open_call season b ≡ opened (decode season) b.sheet
  unfolding open_call
  opens-fresh h = rw (open-no-fault h)

  pub passed : open_fault season b ≡ 0 → Passed season b.sheet (length b.ledger) (length b.tally)
  unfolding open_fault
  passed h = all-passed season b.sheet (length b.ledger) (length b.tally) h

  -- a call's own sentences are read after those of season and buffers
  pub fault-of-call : (k : Call) → call_fault season b k ≡ or_else (open_fault season b) (plain_fault (decode season) b.sheet k)
  unfolding call_fault open_fault plain_fault
  fault-of-call k = first-of-both (of_buffers season b) (of_call (decode season) b.sheet k) tt

  module _ (p : Passed season b.sheet (length b.ledger) (length b.tally)) where
    pub open-passes : open_fault season b ≡ 0
    unfolding open_fault first_true
    open-passes = rw (p.s1, p.s2, p.s3, p.s4, p.s5, p.s7, p.s8)

    pub call_passes : (k : Call) → call_fault season b k ≡ plain_fault (decode season) b.sheet k
    call_passes k = fault-of-call k ∙ ap (λ (f : ℕ). or_else f (plain_fault (decode season) b.sheet k)) open-passes

-- a refusal has a number
pub never-0 : (r : Refusal) → number_of r ≡ 0 → ⊥
never-0 r e = grind arith

-- .. so that what comes after it does not count
pub stays : (r : Refusal) (n : ℕ) → or_else (number_of r) n ≡ number_of r
stays r n = grind arith
