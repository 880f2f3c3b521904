-- The two totals behind the penalties, which a walk leaves as they were: read and written after it.
use mathlib.Core.Path.{◌≡◌, ap, ◌∙◌}
use mathlib.Core.List.{List, [], ◌∷◌, ◌++◌}
use mathlib.Core.Bool.{Bool, true}
use Prim.Native.Nat.{ℕ, ◌+◌, ◌-◌, ◌%◌, ◌^◌}
use native.Mathlib.Nat.{add-zero}
use lib.ListN.{get_or, drop}
use lib.Seq.{get_or-drop, take-append_seam}
use Rattle.robinx.specs.Sums.{list_to}
use Rattle.robinx.specs.Season.{Instance, decode}
use Rattle.robinx.specs.Timetable.{X}
use Rattle.robinx.specs.Books.{penalty_at, total}
use Rattle.robinx.specs.Calls.{stretch_at, gained, reworked_penalty, moved_total}
use Rattle.totals.specs.declared.Totals.{Totals}
use Rattle.replies.specs.declared.Verdict.{Verdict}
use Rattle.replies.specs.Verdict.{verdict_number, verdict_of}
use Rattle.robinx.proofs.Lengths.{length-list_to, list-beyond}
use Rattle.walk.specs.Reworked.{SameBooks, instance_of, Reworked}
use Rattle.walk.specs.declared.books.Books.{Books}
use Rattle.walk.proofs.WalkTurns.{all}
use Rattle.walk.proofs.Walked.{same_twice}
use Rattle.reader.specs.declared.view.SeasonView.{SeasonView}
use Rattle.books.specs.Answer.{with_totals, Opened, Answered}
use Rattle.walk.specs.declared.Moved.{Moved}
use Rattle.totals.proofs.RunningTotals.{hard-change, soft-change}

module _ (f : ℕ → ℕ) (n : ℕ) where
  total_kept : (t : List ℕ) (d : ℕ) → get_or (list_to f n ++ drop n t) (n + d) 0 ≡ get_or t (n + d) 0
  total_kept t d = list-beyond f n d (drop n t) ∙ get_or-drop n t d 0

  first-total : (a b : ℕ) → get_or (list_to f n ++ a ∷ b ∷ []) n 0 ≡ a
  first-total a b = rw add-zero at (list-beyond f n 0 (a ∷ b ∷ []))

  totals-stored : (t : List ℕ) (a b : ℕ) → with_totals (list_to f n ++ drop n t) n a b ≡ list_to f n ++ a ∷ b ∷ []
  totals-stored t a b =
      ap (λ (l : List ℕ). l ++ a ∷ b ∷ []) (rw (length-list_to f n) at (take-append_seam (list_to f n) (drop n t)))

-- where the totals are
behind : {old new : Books} → SameBooks old new → new.season.sizes.constraints ≡ (instance_of old).C
behind {new = new} same = all new ∙ ap (λ (s : SeasonView). (decode s.bytes.now).C) same.season

module _ {old walked new : Books} (first : SameBooks old walked) (second : SameBooks walked new) where
  abbrev m : Instance
  m = instance_of old

  at-end : walked.season.sizes.constraints ≡ m.C
  at-end = behind first

  module _ {x : X} {q : Moved} {u : ℕ} {v : Verdict} where
    -- all were touched, so what is gained is the totals
    pub opened : Reworked old (λ c. true) x walked q → new.ledger.now ≡ walked.ledger.now
        → new.tally.now ≡ with_totals walked.tally.now walked.season.sizes.constraints q.gained.hard q.gained.soft
        → verdict_number v ≡ verdict_of u q.gained.hard
        → Opened m x u new (record { verdict = v; change = q.gained })
    unfolding total gained stretch_at
    opened every l e h = record {
      totals = every.got;
      ledger-is = l ∙ every.ledger-is;
      tally-is = e ∙ rw (at-end, every.tally-is) (totals-stored (penalty_at m x) m.C old.tally.now _ _);
      verdict = h;
    }

    pub answered : {t : ℕ → Bool} {d : Totals} → Reworked old t x walked q
        → d.hard ≡ (q.gained.hard + (2 ^ 64 - q.lost.hard)) % 2 ^ 64
        → d.soft ≡ (q.gained.soft + (2 ^ 64 - q.lost.soft)) % 2 ^ 64
        → new.ledger.now ≡ walked.ledger.now
        → new.tally.now ≡ with_totals walked.tally.now walked.season.sizes.constraints
        (moved_total (get_or walked.tally.now walked.season.sizes.constraints 0) d.hard)
        (moved_total (get_or walked.tally.now (walked.season.sizes.constraints + 1) 0) d.soft)
        → verdict_number v ≡ verdict_of u (get_or new.tally.now new.season.sizes.constraints 0)
        → Answered old t x u new (record { verdict = v; change = d })
    answered {t} {d} w h s l e a =
        let f = reworked_penalty m t x old.tally.now in
        let tally = old.tally.now in
        let hard : get_or (list_to f m.C ++ drop m.C tally) m.C 0 ≡ get_or tally m.C 0 = rw add-zero at (total_kept f m.C tally 0) in
        let left : new.tally.now
        ≡ list_to f m.C ++ moved_total (get_or tally m.C 0) d.hard ∷ moved_total (get_or tally (m.C + 1) 0) d.soft ∷ [] =
        e ∙ rw (at-end, w.tally-is, hard, total_kept f m.C tally 1) (totals-stored f m.C tally _ _) in
        record {
          hard = hard-change m t x tally q.gained q.lost w.got w.gone d.hard h;
          soft = soft-change m t x tally q.gained q.lost w.got w.gone d.soft s;
          ledger-is = l ∙ w.ledger-is;
          tally-is = left;
          verdict = a ∙ rw (left, behind (same_twice first second), first-total f m.C);
        }
