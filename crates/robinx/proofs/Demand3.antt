-- Demand 3: whatever sets and exchanges follow an accepted opening, sheet, books and replies are those of the plain sheet and of a fresh
-- opening of it.
use mathlib.Core.Path.{◌≡◌, refl, sym, ap, ◌∙◌}
use mathlib.Core.List.{List, [], ◌∷◌}
use mathlib.Core.Bool.{Bool, false, ◌&&◌}
use Prim.Native.Nat.{ℕ, zero, suc, ◌+◌, ◌^◌, ◌<◌}
use lib.Dec.{eqb}
use lib.IntN.{ℤ, pos, ◌+ℤ◌, +ℤ_idl, +ℤ_idr, +ℤ_assoc}
use lib.ListN.{length, get_or}
use mir.Syntax.{w64}
use mir.Val.{to_z}
use borrow.Author.Tests.{eqb-true, not-false}
use Rattle.std.proofs.lemmas.Bool.{and_parts}
use Rattle.robinx.specs.Season.{Instance, decode}
use Rattle.robinx.specs.Penalty.{penalty}
use Rattle.robinx.specs.Books.{timetable, is_hard, is_soft, all_entries, total, fresh_ledger, fresh_tally}
use Rattle.robinx.specs.Refusals.{sentence7}
use Rattle.robinx.specs.Calls.{Buffers, fresh_buffers, Outcome, Call, declined, unless_refused, opened, open_call, call_on, moved, touched, stretch_at, reworked, change}
use Rattle.robinx.specs.PlainSheet.{plain_fault, unless_fault, plain_next, plain_after, changes}
use Rattle.robinx.specs.Demands.{next, last, added, afresh, Fresh, Answers, Keeps, AllRight, AddsUp, Demand3}
use Rattle.robinx.specs.declared.Constraint.{Constraint}
use Rattle.robinx.specs.declared.Reply.{Reply}
use Rattle.robinx.proofs.Lengths.{length-ledger, length-tally, stretch-fresh}
use Rattle.robinx.proofs.Change.{Good, call_kept}
use Rattle.robinx.proofs.Limits.{sound, decode-home, total-small}
use Rattle.robinx.proofs.Passed.{Passed, open-no-fault, passed, open-passes, call_passes}
use Rattle.robinx.proofs.Accepted.{length_moved, no-clash, good, opens-again}
use Rattle.robinx.proofs.Kept.{penalty-held, hard-held, soft-held, fresh_after, books-fresh, total-adds}

-- buffers that pass sentence 7 have the lengths that it names
pub lengths : (m : Instance) (a b c : ℕ) → sentence7 m a b c ≡ false → (a ≡ m.G) × (b ≡ all_entries m) × (c ≡ m.C + 2)
unfolding sentence7
lengths m a b c h =
    let p = and_parts (eqb a m.G && eqb b (all_entries m)) (eqb c (m.C + 2)) (not-false _ h) in
    let q = and_parts (eqb a m.G) (eqb b (all_entries m)) p.0 in
    (eqb-true _ _ q.0, eqb-true _ _ q.1, eqb-true _ _ p.1)

-- the totals of a sheet that passes are small
pub totals-small : (season plain : List ℕ) (L T : ℕ) → Passed season plain L T → (want : Constraint → Bool)
    → total want (decode season) (timetable (decode season) plain) < 2 ^ 60
totals-small season plain L T p want =
    let m = decode season in
    total-small m (sound m p.s2 p.s4 p.s5) (decode-home season p.s3) plain (no-clash m plain (lengths m _ _ _ p.s7).0 p.s8) want

module _ (season : List ℕ) where
  abbrev m : Instance
  m = decode season

  -- The invariant: the buffers are the plain sheet with its fresh books, and the plain sheet opens.
  record Held (plain : List ℕ) (o : Outcome) : Type 0 where
    books : o.left ≡ fresh_buffers m plain
    passes : Passed season plain (all_entries m) (m.C + 2)

  -- what is held passes with the lengths of its books
  books_pass : (plain : List ℕ) → Passed season plain (all_entries m) (m.C + 2)
      → Passed season plain (length (fresh_ledger m plain)) (length (fresh_tally m plain))
  books_pass plain p = rw (length-ledger m plain, length-tally m plain) p

  open_is : (b : Buffers) → Passed season b.sheet (length b.ledger) (length b.tally) → open_call season b ≡ opened m b.sheet
  unfolding open_call
  open_is b p = rw (open-passes season b p)

  afresh-is : (plain : List ℕ) (o : Outcome) → Held plain o → afresh season plain o ≡ opened m plain
  afresh-is plain o h = rw h.books (open_is (fresh_buffers m plain) (books_pass plain h.passes))

  held-fresh : (plain : List ℕ) (o : Outcome) → Held plain o → Fresh season plain o
  unfolding opened
  held-fresh plain o h =
      let a = afresh-is plain o h in
      record {
        sheet = ap (λ (b : Buffers). b.sheet) h.books;
        opens = ap (λ (o : Outcome). o.reply.declined) a;
        ledger = ap (λ (b : Buffers). b.ledger) h.books ∙ sym (ap (λ (o : Outcome). o.left.ledger) a);
        tally = ap (λ (b : Buffers). b.tally) h.books ∙ sym (ap (λ (o : Outcome). o.left.tally) a);
      }

  -- An opening that is not declined fills the books, and holds.
  opens : (b : Buffers) → (open_call season b).reply.declined ≡ false → Passed season b.sheet (length b.ledger) (length b.tally)
  opens b h = passed season b (open-no-fault season b h)

  opening : (b : Buffers) → Passed season b.sheet (length b.ledger) (length b.tally) → Held b.sheet (opened m b.sheet)
  unfolding opened
  opening b p =
      let l = lengths m (length b.sheet) (length b.ledger) (length b.tally) p.s7 in
      record { books = refl; passes = rw (← l.1, ← l.2) p }

  module _ (plain : List ℕ) (o : Outcome) (h : Held plain o) (k : Call) where
    abbrev f : ℕ
    f = plain_fault m plain k

    long : length plain ≡ m.G
    long = (lengths m (length plain) _ _ h.passes.s7).0

    -- the call, on the plain sheet with its fresh books
    abbrev result : ℕ → Outcome
    result r = unless_refused r (reworked m (fresh_buffers m plain) k) (fresh_buffers m plain)

    next-is : next season o k ≡ result f
    unfolding call_on
    next-is = rw (h.books, call_passes season (fresh_buffers m plain) (books_pass plain h.passes) k)

    -- the sheet after the call opens, and its totals are small
    passes-again : f ≡ 0 → Passed season (moved plain k) (all_entries m) (m.C + 2)
    passes-again e = record {
      s1 = h.passes.s1;
      s2 = h.passes.s2;
      s3 = h.passes.s3;
      s4 = h.passes.s4;
      s5 = h.passes.s5;
      s7 = rw (length_moved plain k) h.passes.s7;
      s8 = opens-again m plain long h.passes.s8 k e;
    }

    good-call : f ≡ 0 → Good plain k
    good-call e = good m plain long h.passes.s8 k e

    low : (want : Constraint → Bool) → total want m (timetable m plain) < 2 ^ 60
    low = totals-small season plain (all_entries m) (m.C + 2) h.passes

    low_again : f ≡ 0 → (want : Constraint → Bool) → total want m (timetable m (moved plain k)) < 2 ^ 60
    low_again e = totals-small season (moved plain k) (all_entries m) (m.C + 2) (passes-again e)

    fresh : f ≡ 0 → result 0 ≡ fresh_after m plain k
    fresh e = books-fresh m plain k (good-call e) low (low_again e)

    held_next : Held (plain_next m plain k) (next season o k)
    unfolding plain_next
    held_next = rw next-is (go f refl)
      where
        go : (r : ℕ) → f ≡ r → Held (unless_fault r (moved plain k) plain) (result r)
        go zero e = rw (fresh e) (record { books = refl; passes = passes-again e })
        go (suc r) e = record { books = refl; passes = h.passes }

    answers : Answers f (next season o k).reply (afresh season (plain_next m plain k) (next season o k)).reply.number
    unfolding plain_next opened
    answers = rw (afresh-is (plain_next m plain k) (next season o k) held_next, next-is) (go f refl)
      where
        go : (r : ℕ) → f ≡ r → Answers r (result r).reply (opened m (unless_fault r (moved plain k) plain)).reply.number
        go zero e = rw (fresh e) (refl, refl)
        go (suc r) e = (refl, refl)

    keeps : Keeps m (changes m plain k) o (next season o k)
    unfolding changes
    keeps c l e = rw (next-is, h.books) (go f refl e)
      where
        go : (r : ℕ) → f ≡ r → eqb r 0 && touched m plain k c ≡ false
            → (stretch_at m (result r).left.ledger c ≡ stretch_at m (fresh_ledger m plain) c)
            × (get_or (result r).left.tally c 0 ≡ get_or (fresh_tally m plain) c 0)
        go zero e t =
            let s = sym (call_kept m plain k c (good-call e) t) in
            rw (fresh e) (
              stretch-fresh m (moved plain k) c l ∙ s ∙ sym (stretch-fresh m plain c l),
              penalty-held m (moved plain k) c l ∙ ap (penalty (m.constraint c)) s ∙ sym (penalty-held m plain c l),
            )
        go (suc r) e t = (refl, refl)

    -- a change of this call takes the plain sheet's fresh total from before it to after it
    total-change : (d : Reply → ℤ) (want : Constraint → Bool)
        → d (fresh_after m plain k).reply ≡ to_z w64 (change want m (touched m plain k) (timetable m (moved plain k)) (fresh_tally m plain))
        → ((r : ℕ) → d (declined r) ≡ pos 0)
        → pos (total want m (timetable m plain)) +ℤ d (next season o k).reply ≡ pos (total want m (timetable m (plain_next m plain k)))
    unfolding plain_next
    total-change d want new none = rw next-is (go f refl)
      where
        go : (r : ℕ) → f ≡ r
            → pos (total want m (timetable m plain)) +ℤ d (result r).reply ≡ pos (total want m (timetable m (unless_fault r (moved plain k) plain)))
        go zero e = rw (fresh e, new) (total-adds m plain k (good-call e) low (low_again e) want)
        go (suc r) e = rw (none (suc r)) (+ℤ_idr _)

  -- Every call of a list, and what holds after the last.
  all_right : (plain : List ℕ) (o : Outcome) → Held plain o → (ks : List Call) → AllRight season plain o ks
  all_right plain o h [] = tt
  all_right plain o h (k ∷ ks) = (
    record { fresh = held-fresh _ _ (held_next plain o h k); answer = answers plain o h k; keeps = keeps plain o h k },
    all_right (plain_next m plain k) (next season o k) (held_next plain o h k) ks,
  )

  held-last : (plain : List ℕ) (o : Outcome) → Held plain o → (ks : List Call) → Held (plain_after m plain ks) (last season o ks)
  unfolding plain_after last
  held-last plain o h [] = h
  held-last plain o h (k ∷ ks) = held-last (plain_next m plain k) (next season o k) (held_next plain o h k) ks

  -- A total whose change each call takes from the plain sheet before it to the one after it: all changes together, o's first.
  adds : (d : Reply → ℤ) (T : List ℕ → ℕ)
      → ((plain : List ℕ) (o : Outcome) → Held plain o → (k : Call) → pos (T plain) +ℤ d (next season o k).reply ≡ pos (T (plain_next m plain k)))
      → (plain : List ℕ) (o : Outcome) → Held plain o → (before : ℤ) → before +ℤ d o.reply ≡ pos (T plain)
      → (ks : List Call) → before +ℤ added d season o ks ≡ pos (T (plain_after m plain ks))
  unfolding added plain_after
  adds d T step plain o h before e [] = e
  adds d T step plain o h before e (k ∷ ks) =
      sym (+ℤ_assoc before (d o.reply) _)
      ∙ ap (λ (v : ℤ). v +ℤ added d season (next season o k) ks) e
      ∙ adds d T step (plain_next m plain k) (next season o k) (held_next plain o h k) (pos (T plain)) (step plain o h k) ks

  -- the changes of one total add up to what the last tally holds
  adds-up : (d : Reply → ℤ) (want : Constraint → Bool) (at : ℕ)
      → ((plain : List ℕ) (k : Call) → d (fresh_after m plain k).reply
      ≡ to_z w64 (change want m (touched m plain k) (timetable m (moved plain k)) (fresh_tally m plain)))
      → ((r : ℕ) → d (declined r) ≡ pos 0)
      → ((plain : List ℕ) → get_or (fresh_tally m plain) at 0 ≡ total want m (timetable m plain))
      → (sheet : List ℕ) (o : Outcome) → Held sheet o → d o.reply ≡ pos (total want m (timetable m sheet))
      → (ks : List Call) → added d season o ks ≡ pos (get_or (last season o ks).left.tally at 0)
  adds-up d want at new none holds sheet o h e ks =
      sym (+ℤ_idl _)
      ∙ adds d (λ s. total want m (timetable m s)) (λ plain o h k. total-change plain o h k d want (new plain k) none) sheet o h (pos 0) (+ℤ_idl _ ∙ e) ks
      ∙ ap pos (sym (rw (held-last sheet o h ks).books (holds (plain_after m sheet ks))))

  proved : (b : Buffers) → (open_call season b).reply.declined ≡ false → (calls : List Call)
      → Fresh season b.sheet (open_call season b)
      × AllRight season b.sheet (open_call season b) calls
      × Fresh season (plain_after m b.sheet calls) (last season (open_call season b) calls)
      × AddsUp season (open_call season b) calls
  unfolding opened
  proved b accepted calls =
      let sheet = b.sheet in
      let p = opens b accepted in
      let h = opening b p in
      let o = opened m sheet in
      rw (open_is b p) (
        held-fresh sheet o h,
        all_right sheet o h calls,
        held-fresh _ _ (held-last sheet o h calls),
        (
          adds-up (λ r. r.infeasibility) is_hard m.C (λ plain k. refl) (λ r. refl) (hard-held m) sheet o h refl calls,
          adds-up (λ r. r.objective) is_soft (m.C + 1) (λ plain k. refl) (λ r. refl) (soft-held m) sheet o h refl calls,
        ),
      )

pub demand-3 : Demand3
demand-3 season b accepted calls = proved season b accepted calls
