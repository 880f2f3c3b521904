-- One turn of the walk: what the season gives for constraint number k.
use mathlib.Core.Path.{◌≡◌, sym, ap, ◌∙◌}
use mathlib.Core.List.{List, ◌++◌}
use mathlib.Core.Bool.{true, false, not}
use Prim.Native.Nat.{ℕ, ◌+◌, ◌-◌, ◌^◌, ◌<◌, ◌≤◌}
use native.Mathlib.Omega.{arith}
use lib.ListN.{length, get_or, set, take, drop}
use borrow.Author.Tests.{not-false}
use Rattle.robinx.specs.Sums.{sum_to}
use Rattle.robinx.specs.Season.{Instance, most_slots}
use Rattle.robinx.specs.Deviations.{deviations, entries}
use Rattle.robinx.specs.Penalty.{sum, penalty}
use Rattle.robinx.specs.Rules.{obeys}
use Rattle.robinx.specs.Books.{deviations_at, entries_at, is_hard}
use Rattle.robinx.specs.Refusals.{sentence5}
use Rattle.robinx.specs.declared.Constraint.{Constraint}
use Rattle.robinx.specs.declared.Season.{Season}
use Rattle.robinx.proofs.Sums.{sum-add, any_none}
use Rattle.robinx.proofs.Bounds.{sum-small}
use Rattle.rules.specs.CountedBits.{ones_in}
use Rattle.robinx.specs.Kinds.{form_at}
use Rattle.reader.specs.Sizes.{sizes_of}
use Rattle.reader.proofs.Read.{SizesInRange, in-range, teams-read, slots_read, constraints-read, sizes-tested}
use Rattle.rules.proofs.Members.{entries-counted}
use Rattle.tables.specs.declared.Tables.{Tables}
use Rattle.tables.specs.Tables.{x_of, Tied}
use Rattle.opponents.specs.Checkable.{Checkable}
use Rattle.opponents.proofs.Checkable.{limits}
use Rattle.totals.specs.RunningTotals.{Adds}
use Rattle.walk.specs.Walk.{is_touched}
use Rattle.walk.specs.Reworked.{instance_of, touched_in}
use Rattle.walk.specs.declared.books.Books.{Books}
use Rattle.walk.specs.declared.Touch.{Touch}
use Rattle.walk.specs.declared.Moved.{Moved}
use Rattle.walk.proofs.Laid.{part_length}
use Rattle.walk.proofs.Walked.{Walked, walked-fits, walked-reworked, walked-kept}

-- the deviations of a check leave room for its penalty
pub small : {n P : ℕ} {c : Constraint} {t : Tables} → Checkable n P c t
    → sum (deviations n P c (x_of t.meets)) < 2 ^ 28
small {n} {P} {c} {t} r =
    let o = limits r in
    let x = x_of t.meets in
    let once : (i k : ℕ) → i < n → k < P → sum_to (λ j. x i j k + x j i k) n ≤ 1 =
    λ i k hi hk.
    let w = r.tied in
    let h : k < most_slots = omega (arith, r.slots) in
    omega (arith, sum-add (λ j. x i j k) (λ j. x j i k) n, w.home-row i k hi h, w.away-row i k hi h, w.once i k hi h) in
    omega (arith, sum-small n P r.teams r.slots x once c o.kmin o.kmax o.w)

module _ (b : Books) where
  abbrev m : Instance
  m = instance_of b

  -- where the totals begin
  pub all : b.season.sizes.constraints ≡ m.C
  all = constraints-read _ b.season.measured.sizes

  pub long : length b.tally.now ≡ m.C + 2
  long = b.tally_length ∙ ap (λ (n : ℕ). n + 2) all

  keeps : (k : ℕ) → k < m.C → obeys m.n m.P (m.constraint k) ≡ true
  unfolding sentence5
  keeps k l = not-false _ (any_none (λ c. not (obeys m.n m.P (m.constraint c))) m.C b.rules k l)

  -- k turns are done
  abbrev pub Walk : Touch → List (List ℕ) → ℕ → ℕ → List ℕ → List ℕ → Moved → Type 0
  Walk touch meets k a ledger tally sums =
      Walked m (touched_in b touch) (x_of meets) b.ledger.now b.tally.now k a ledger tally sums.gained sums.lost

  -- WalkTurn number k, in the words of the code: c has been read, it has e deviations, and its stretch begins at a. The stretch lies in the
  -- ledger, has room for them, and they can be worked out; the turn ends with it filled, or with nothing written.
  pub record WalkTurn (z : Season) (touch : Touch) (t : Tables) (k a : ℕ) (ledger tally : List ℕ) (sums : Moved)
      (c : Constraint) (e : ℕ) : Type 0 where
    pub fits : a + e ≤ length ledger
    pub counted : k < length tally
    pub ready : Checkable z.teams z.slots c t
    pub room : length (take (a + e - a) (drop a ledger)) ≡ entries z.teams z.slots c
    pub reworked : {ledger' tally' : List ℕ} {sums' : Moved} → is_touched touch c ≡ true
        → ledger' ≡ take a ledger ++ (deviations z.teams z.slots c (x_of t.meets) ++ drop (a + e - a) (drop a ledger))
        → tally' ≡ set tally k (penalty c (deviations z.teams z.slots c (x_of t.meets)))
        → Adds sums.gained (is_hard c) (penalty c (deviations z.teams z.slots c (x_of t.meets))) sums'.gained
        → Adds sums.lost (is_hard c) (get_or tally k 0) sums'.lost
        → Walk touch t.meets (k + 1) (a + e) ledger' tally' sums'
    pub kept : is_touched touch c ≡ false → Walk touch t.meets (k + 1) (a + e) ledger tally sums

  module _ {z : Season} (read : z ≡ sizes_of b.season.bytes.now) {t : Tables} (tied : Tied m.n t) (touch : Touch)
      {k a : ℕ} {ledger tally : List ℕ} {sums : Moved} (w : Walk touch t.meets k a ledger tally sums)
      (l : k < z.constraints) {c : Constraint} (hc : c ≡ m.constraint k) {e : ℕ} (he : e ≡ ones_in (form_at c.kind).shape c) where
    ranges : SizesInRange z
    ranges = in-range z (sym (sizes-tested _ read) ∙ b.sizes)

    more : k < m.C
    more = rw (← constraints-read _ read) l

    entry : e ≡ entries_at m k
    entry = he ∙ rw hc (sym (entries-counted m.n m.P (m.constraint k) (keeps k more)))

    end : a + e ≡ a + entries_at m k
    end = ap (λ (v : ℕ). a + v) entry

    figures : deviations z.teams z.slots c (x_of t.meets) ≡ deviations_at m (x_of t.meets) k
    figures = rw (teams-read _ read, slots_read _ read, hc)

    inside : a + e ≤ length ledger
    inside = rw entry (walked-fits w b.ledger_length long more)

    pub turn : WalkTurn z touch t k a ledger tally sums c e
    turn = record {
      fits = inside;
      counted = omega (arith, more, w.listed.long, long);
      ready =
          rw (teams-read _ read, slots_read _ read, hc)
          (record {
            teams = rw (← teams-read _ read) ranges.teams;
            slots = rw (← slots_read _ read) ranges.slots;
            rules = keeps k more;
            tied = tied;
          });
      room = rw (teams-read _ read, slots_read _ read, hc) (part_length ledger a (a + e) (entries_at m k) end inside);
      reworked = λ h hl ht hg hs.
          rw ht
          (walked-reworked w b.ledger_length long more end (rw (← hc) h) figures (rw (figures, hc)) hl
          (rw (← hc) hg)
          (rw (← hc) hs));
      kept = λ h. walked-kept w b.ledger_length long more end (rw (← hc) h);
    }
