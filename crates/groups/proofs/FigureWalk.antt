-- A walk with a figure, as std's chain over the members has it: each call gives the member's figure. Assumes nothing.
use mathlib.Core.Path.{◌≡◌, sym, subst, ◌∙◌}
use mathlib.Core.List.{List, [], ◌∷◌}
use Prim.Native.Nat.{ℕ, ◌+◌, ◌*◌, ◌^◌, ◌<◌}
use native.Mathlib.Omega.{arith}
use denote.Param.Members.{Mut, Called, MutLaws, FnLaws, step_gives}
use Rattle.std.specs.declared.option.Option.{Option}
use Rattle.std.specs.declared.option.Option.TheVariants.{None, Some}
use Rattle.std.specs.declared.iter.Map.{Map}
use Rattle.std.specs.Option.{MatchOption}
use Rattle.std.specs.Iterator.{Yields, Drains, CallableAtEachTurn}
use Rattle.std.specs.Iterator.Runs.{EachRunFrom, YieldsRun}
use Rattle.std.specs.List.{fold}
use Rattle.std.specs.Fn.{Takes}
use Rattle.robinx.specs.Season.{most_teams}
use Rattle.bits.specs.declared.SetBits.{SetBits}
use Rattle.bits.specs.SetBits.{Steps}
use Rattle.bits.proofs.Walk.{serves}
use Rattle.groups.specs.Figures.{OfMembers, TotalFigure}
use Rattle.groups.proofs.Figures.{SumIn, sum-in, sum-next, sum-all-in}

-- T's walk s with a figure f: a call leaves the figure as it is
module _ {F : Type 0} (g : Mut F (ℕ × Unit {0}) ℕ) (stays : FnLaws g) where
  abbrev MapSteps : Map SetBits F → Option ℕ → Map SetBits F → Type 0
  MapSteps s r t = MatchOption r (Steps s.iter None t.iter × (t.f ≡ s.f)) (λ y. (x : ℕ) × Steps s.iter (Some x) t.iter × Called g s.f (x, tt) y t.f)

  module _ {T : ℕ} (s : Map SetBits F) (f : F) (same : s.f ≡ f) (source : s.iter.rest ≡ T) (h : T < 2 ^ most_teams) where
    pub map-callable : OfMembers most_teams T (λ t. g.pre f (t, tt))
        → CallableAtEachTurn Steps (λ p x q. (r : ℕ) × Called g p (x, tt) r q) (λ p x. Takes g p (x, tt)) s.iter s.f
    map-callable call =
        serves (λ k. k ≡ f) (λ p q x i k. stays.step_stays _ _ _ _ k.1 ∙ i) source h same
        (λ p x i l b. subst (λ (k : F). g.pre k (x, tt)) (sym i) (call x l b))

    abbrev Figure : ℕ → ℕ → Type 0
    Figure t r = g.post f (t, tt) r

    module _ (laws : MutLaws g) (few : OfMembers most_teams T (λ t. (r : ℕ) → Figure t r → most_teams * r < 2 ^ 32)) where
      sum-along : (xs : List ℕ) (k t : Map SetBits F) (v : ℕ) → k.f ≡ f → SumIn T Figure k.iter.rest v → Yields MapSteps k xs t
          → SumIn T Figure t.iter.rest (fold (λ a x. a + x) v xs)
      sum-along [] k t v e w y = subst (λ (k : Map SetBits F). SumIn T Figure k.iter.rest v) y w
      sum-along (x ∷ xs) k t v e w y =
          let step : (x' : ℕ) × Steps k.iter (Some x') y.0.iter × Called g k.f (x', tt) x y.0.f = y.1 in
          let p : Figure step.0 x = subst (λ (p : F). g.post p (step.0, tt) x) e (step_gives g k.f _ x _ laws step.2) in
          sum-along xs y.0 t (v + x) (stays.step_stays _ _ _ _ step.2 ∙ e) (sum-next h w few step.1 p) y.2

      along : (xs : List ℕ) (t : Map SetBits F) → Yields MapSteps s xs t → SumIn T Figure t.iter.rest (fold (λ a x. a + x) 0 xs)
      along xs t = sum-along xs s t 0 same (rw source (sum-in h))

      pub sum-fits : EachRunFrom MapSteps s (λ p. fold (λ a x. a + x) 0 p.items < 2 ^ 32)
      unfolding YieldsRun
      sum-fits = λ p _ at.
          let z = along p.items p.gave.0.0 (subst (λ (u : Map SetBits F). Yields MapSteps u p.items p.gave.0.0) at p.gave.0.1) in
          omega (arith, z.small)

      pub sum-total : {r : ℕ} → ((xs : List ℕ) × (Unit {0} → Drains MapSteps s xs) × (r ≡ fold (λ a x. a + x) 0 xs)) → TotalFigure T Figure r
      sum-total ran = let d = ran.1 tt in rw ran.2 (sum-all-in h (along ran.0 d.1.0 d.1.1) d.1.2.0.0)
