-- One pass over the constraints finds sentence 5 and carries the number of deviations.
use mathlib.Core.Path.{◌≡◌, refl, sym, subst, ◌∙◌}
use mathlib.Core.List.{List, [], ◌∷◌}
use mathlib.Core.Bool.{Bool, true, false, not}
use Prim.Native.Nat.{ℕ, ◌+◌, ◌*◌, ◌<◌, ◌≤◌}
use Rattle.std.proofs.Common.{Ok, Err}
use Rattle.robinx.specs.Sums.{sum_to, any_to}
use Rattle.robinx.specs.Season.{Instance, decode}
use Rattle.robinx.specs.Rules.{obeys}
use Rattle.robinx.specs.Books.{start_at}
use Rattle.robinx.specs.Kinds.{form_at}
use Rattle.robinx.specs.Refusals.{sentence, sentence5, first_true}
use Rattle.robinx.specs.declared.Season.{Season}
use Rattle.robinx.specs.declared.Constraint.{Constraint}
use Rattle.robinx.specs.declared.Refusal.TheVariants.{BadConstraint}
use Rattle.robinx.proofs.Sums.{sum_step, any_step, any_some, sum_bound}
use Rattle.robinx.proofs.Bounds.{entries-small}
use Rattle.rules.specs.CountedBits.{ones_in}
use Rattle.rules.proofs.Members.{entries-counted}
use Rattle.reader.specs.Sizes.{Measured}
use Rattle.reader.specs.declared.view.SeasonView.{SeasonView}
use Rattle.reader.proofs.Read.{teams-read, slots_read, constraints-read, SizesInRange}
use Rattle.season.specs.Examination.{Examination}

abbrev pub breach : Instance → ℕ → Bool
breach m c = not (obeys m.n m.P (m.constraint c))

-- the first k constraints keep the rules and have e deviations
pub record Kept (m : Instance) (k e : ℕ) : Type 0 where
  pub rules : any_to (breach m) k ≡ false
  pub entries : e ≡ start_at m k

pub kept-none : (m : Instance) → Kept m 0 0
unfolding any_to start_at sum_to
kept-none m = record { rules = refl; entries = refl }

module _ (v : SeasonView) where
  abbrev s : List ℕ
  s = v.bytes.now

  abbrev z : Season
  z = v.sizes

  measured : Measured s z
  measured = v.measured

  -- the rules' answer about constraint k
  answer : (k : ℕ) {c : Constraint} {b : Bool} → c ≡ (decode s).constraint k → b ≡ obeys z.teams z.slots c
      → obeys (decode s).n (decode s).P ((decode s).constraint k) ≡ b
  answer k e h = rw (← teams-read s measured.sizes, ← slots_read s measured.sizes, ← e) (sym h)

  pub kept-more : {k e v : ℕ} {c : Constraint} → Kept (decode s) k e → c ≡ (decode s).constraint k → true ≡ obeys z.teams z.slots c
      → v ≡ ones_in (form_at c.kind).shape c → Kept (decode s) (k + 1) (e + v)
  unfolding start_at
  kept-more {k} old e h ev =
      let kept = answer k e h in
      record {
        rules = rw (any_step, old.rules, kept);
        entries = rw (sum_step, old.entries, entries-counted (decode s).n (decode s).P ((decode s).constraint k) kept, ← e, ev);
      }

  pub few : {k e : ℕ} → SizesInRange z → Kept (decode s) k e → e ≤ k * 496
  unfolding start_at
  few {k} range all =
      rw all.entries (sum_bound k 496 (λ c l. entries-small (decode s).n (decode s).P (rw (← teams-read s measured.sizes) range.teams)
      (rw (← slots_read s measured.sizes) range.slots) ((decode s).constraint c)))

  pub broken : (k : ℕ) {c : Constraint} → k < z.constraints → c ≡ (decode s).constraint k → false ≡ obeys z.teams z.slots c
      → Examination (sentence 5 (sentence5 (decode s)) ∷ []) s (Err BadConstraint)
  unfolding first_true sentence5
  broken k l e h =
      let bad = any_some (breach (decode s)) (decode s).C k (rw (← constraints-read s measured.sizes) l) (rw (answer k e h)) in
      record { fault = rw bad; found = tt }

  pub kept-all : {k e : ℕ} → k ≡ z.constraints → Kept (decode s) k e
      → Examination (sentence 5 (sentence5 (decode s)) ∷ []) s (Ok (record { season = v; entries = e }))
  unfolding first_true sentence5
  kept-all {e = e} l old =
      let all = subst (λ (k : ℕ). Kept (decode s) k e) (l ∙ constraints-read s measured.sizes) old in
      record { fault = rw all.rules; found = record { same = refl; entries = all.entries } }
