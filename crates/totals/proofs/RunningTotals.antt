-- Running totals, hard and soft at once, and their change. Assumes nothing.
use Rattle.std.proofs.Common.{◌≡◌, ℕ, ◌+◌, ◌-◌, ◌%◌, ◌^◌, Bool, true, false, ◌&&◌, List, ◌∙◌, add-zero}
use native.Mathlib.Nat.{mod-add-mod}
use Rattle.robinx.specs.Sums.{sum_to, only}
use Rattle.robinx.specs.Season.{Instance}
use Rattle.robinx.specs.Timetable.{X}
use Rattle.robinx.specs.Books.{is_hard, is_soft}
use Rattle.robinx.specs.Calls.{gained, lost, change}
use Rattle.robinx.specs.declared.Constraint.{Constraint}
use Rattle.totals.specs.declared.Totals.{Totals}
use Rattle.robinx.proofs.Sums.{sum_step}
use Rattle.totals.specs.RunningTotals.{TotalsOf, Adds}

-- a sum with one constraint more
abbrev pub Grown : ((Constraint → Bool) → ℕ) → Constraint → ℕ → ((Constraint → Bool) → ℕ) → Type 0
Grown s c p s' = (want : Constraint → Bool) → s' want ≡ s want + only (want c) p

one_more : (a s p v s' : ℕ) → a ≡ s % 2 ^ 64 → v ≡ (a + p) % 2 ^ 64 → s' ≡ s + p → v ≡ s' % 2 ^ 64
one_more a s p v s' h e g = e ∙ rw (h, g) (mod-add-mod s (2 ^ 64) p)

pub holds_more : {s s' : (Constraint → Bool) → ℕ} {t r : Totals} (c : Constraint) (p : ℕ)
    → TotalsOf s t → Adds t (is_hard c) p r → Grown s c p s' → TotalsOf s' r
holds_more {s} {s'} {t} {r} c p h a g = record {
  hard = one_more t.hard (s is_hard) (only (is_hard c) p) r.hard (s' is_hard) h.hard a.0 (g is_hard);
  soft = one_more t.soft (s is_soft) (only (is_soft c) p) r.soft (s' is_soft) h.soft a.1 (g is_soft);
}

pub holds_same : {s s' : (Constraint → Bool) → ℕ} {t : Totals} → TotalsOf s t → ((want : Constraint → Bool) → s' want ≡ s want) → TotalsOf s' t
holds_same {s} {s'} {t} h e = record { hard = rw (e is_hard) h.hard; soft = rw (e is_soft) h.soft }

-- The sums that a walk over touched constraints gathers: f gives the summand of each.
abbrev pub gathered : Instance → (ℕ → Bool) → (ℕ → ℕ) → ℕ → (Constraint → Bool) → ℕ
gathered m t f k want = sum_to (λ c. only (t c && want (m.constraint c)) (f c)) k

module _ (m : Instance) (t : ℕ → Bool) (f : ℕ → ℕ) (k : ℕ) where
  pub gathered-more : t k ≡ true → Grown (gathered m t f k) (m.constraint k) (f k) (gathered m t f (k + 1))
  gathered-more e want = sum_step _ k ∙ rw e

  pub gathered-same : t k ≡ false → (want : Constraint → Bool) → gathered m t f (k + 1) want ≡ gathered m t f k want
  gathered-same e want = sum_step _ k ∙ rw e (add-zero _)

-- The change of a total, from what was gained and lost modulo 2^64.
change-mod : (G g l d : ℕ) → g ≡ G % 2 ^ 64 → d ≡ (g + (2 ^ 64 - l)) % 2 ^ 64 → d ≡ (G + (2 ^ 64 - l)) % 2 ^ 64
change-mod G g l d h e = e ∙ rw h (mod-add-mod G (2 ^ 64) (2 ^ 64 - l))

module _ (m : Instance) (t : ℕ → Bool) (x : X) (tally : List ℕ) (g l : Totals)
    (got : TotalsOf (λ want. gained want m t x m.C) g)
    (gone : TotalsOf (λ want. lost want m t tally m.C) l) (d : ℕ) where
  pub hard-change : d ≡ (g.hard + (2 ^ 64 - l.hard)) % 2 ^ 64 → d ≡ change is_hard m t x tally
  unfolding change
  hard-change e = rw (← gone.hard) (change-mod _ g.hard l.hard d got.hard e)

  pub soft-change : d ≡ (g.soft + (2 ^ 64 - l.soft)) % 2 ^ 64 → d ≡ change is_soft m t x tally
  unfolding change
  soft-change e = rw (← gone.soft) (change-mod _ g.soft l.soft d got.soft e)
