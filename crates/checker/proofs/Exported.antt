-- The exported calls: a refusal of sentences 1 to 8, or what follows them.
use mathlib.Core.Path.{◌≡◌, sym, ap, ◌∙◌}
use mathlib.Core.List.{List}
use Prim.Native.Nat.{ℕ}
use Rattle.std.specs.Prelude.{Result, Ok, Err}
use Rattle.robinx.specs.Season.{decode}
use Rattle.robinx.specs.Calls.{Buffers, Outcome, outcome, open_call, Call, call_fault, call_on}
use Rattle.robinx.specs.PlainSheet.{plain_fault}
use Rattle.robinx.specs.RefusalNumbers.{fault_of}
use Rattle.robinx.specs.declared.Refusal.{Refusal}
use Rattle.robinx.proofs.Passed.{or_else, fault-of-call, stays}
use Rattle.tables.specs.declared.Tables.{Tables}
use Rattle.replies.specs.Reply.{reply_of}
use Rattle.admission.specs.Admission.{Ready, Admits, after_entry}
use Rattle.admission.specs.declared.Admitted.{Admitted}
use Rattle.tables.specs.Tables.{x_of, Tied}
use Rattle.replies.specs.declared.Accepted.{Accepted}
use Rattle.walk.specs.Reworked.{lent}
use Rattle.walk.specs.declared.books.Books.{Books}
use Rattle.books.specs.Answer.{Opened}
use Rattle.calls.proofs.Outcomes.{BooksFit, books-fit, tied-now, open_is}
use Rattle.calls.proofs.CallNumbers.{refusal_is}

module _ {s : List ℕ} {t : Tables} {b : Buffers} where
  call-fault : {r : Result Admitted Refusal} → Admits s b r t → (k : Call) → call_fault s b k ≡ or_else (fault_of r) (plain_fault (decode s) b.sheet k)
  call-fault w k = fault-of-call s b k ∙ ap (λ (f : ℕ). or_else f (plain_fault (decode s) b.sheet k)) (sym w.number)

  module _ {e : Refusal} (w : Admits s b (Err e) t) where
    pub open_refused : outcome (reply_of (Err e)) b ≡ open_call s b
    unfolding open_call
    open_refused = rw (← w.number) (refusal_is e _)

    -- set and exchange
    pub call_refused : (k : Call) → outcome (reply_of (Err e)) b ≡ call_on s b k
    unfolding call_on
    call_refused k = rw (call-fault w k, stays e (plain_fault (decode s) b.sheet k)) (refusal_is e _)

  module _ {x : Admitted} (w : Admits s b (Ok x) t) where
    -- what is asked of the books, and of what is done with them
    pub fit : BooksFit x.season b.ledger b.tally
    fit = books-fit w.found.same w.found.ready

    pub tied : Tied (decode x.season.bytes.now).n t
    tied = rw w.found.same (tied-now w.found.ready)

    pub ready : Ready x.season.bytes.now b x.unplaced t
    ready = rw w.found.same w.found.ready

    pub open_accepted : {new : Books} {a : Accepted} → Opened (decode x.season.bytes.now) (x_of t.meets) x.unplaced new a
        → outcome (reply_of (Ok a)) (lent b.sheet new) ≡ open_call s b
    unfolding open_call
    open_accepted h = rw (← w.number) (open_is w.found.ready (rw w.found.same at h))

    pub call_passed : {o : Outcome} (k : Call) → o ≡ after_entry (decode x.season.bytes.now) b k → o ≡ call_on s b k
    unfolding call_on
    call_passed k e = rw (call-fault w k) (rw w.found.same at e)
