-- A team's trips as std's chain over the slots has them: runs that are no trips are passed over, and the others add what they add. Assumes nothing.
use mathlib.Core.Path.{◌≡◌, refl, sym, subst, ◌∙◌}
use mathlib.Core.List.{List, [], ◌∷◌}
use mathlib.Core.Bool.{true≢false}
use Prim.Native.Nat.{ℕ, ◌+◌, ◌*◌, ◌%◌, ◌^◌, ◌<◌}
use native.Mathlib.Omega.{arith}
use native.Mathlib.Nat.{add-zero}
use lib.Bits.{bit_and}
use lib.ListN.{get_or}
use denote.Param.Members.{Mut, Called, MutLaws, FnLaws, step_gives}
use Rattle.std.specs.declared.option.Option.{Option}
use Rattle.std.specs.declared.option.Option.TheVariants.{None, Some}
use Rattle.std.specs.declared.iter.Map.{Map}
use Rattle.std.specs.declared.iter.FilterMap.{FilterMap}
use Rattle.std.specs.Option.{MatchOption, IsSome}
use Rattle.std.specs.Iterator.{Yields, YieldsThen, Drains}
use Rattle.std.specs.Iterator.Adapters.{map_steps, filter_map_steps}
use Rattle.std.specs.Iterator.Runs.{EachRunFrom, YieldsRun}
use Rattle.std.specs.List.{FoldsTo, fold}
use Rattle.robinx.specs.Season.{most_slots, slots_of}
use Rattle.robinx.specs.Groups.{has}
use Rattle.robinx.specs.Timetable.{starts_trip}
use Rattle.bits.specs.declared.SetBits.{SetBits}
use Rattle.bits.specs.SetBits.{Lowest, Steps}
use Rattle.masks.specs.Masks.{Marks}
use Rattle.opponents.specs.declared.check.Check.{Check}
use Rattle.trips.specs.TripFigures.{TripAt, TripsFigure}
use Rattle.trips.proofs.TeamTrips.{Summed, run_of, none-summed, one-more, all-summed}

-- h gives the trip from a slot, g what a trip adds
module _ {C F : Type 0} (h : Mut C (ℕ × Unit {0}) (Option ℕ)) (g : Mut F (ℕ × Unit {0}) ℕ) where
  abbrev Trips : Type 0
  Trips = FilterMap SetBits C

  abbrev TripSteps : Trips → Option ℕ → Trips → Type 0
  TripSteps = filter_map_steps Steps h

  abbrev SumSteps : Map Trips F → Option ℕ → Map Trips F → Type 0
  SumSteps = map_steps TripSteps g

  -- the trips of team t, whose runs of away games start in the slots of starts
  module _ (laws : MutLaws g) (stays : FnLaws g) (k : Check) (t : ℕ) (lt : t < k.sizes.teams)
      (away : ℕ) (front : away ≡ get_or k.tables.now.away t 0 % 2 ^ k.sizes.slots)
      (starts : ℕ) (marks : Marks most_slots (starts_trip (has away) (has (get_or k.tables.now.home t 0))) starts) (c : C) (f : F)
      (gives : (a : ℕ) (o : Option ℕ) (q : C) → Called h c (a, tt) o q
      → (q ≡ c) × TripAt away (get_or k.tables.now.home t 0) (slots_of k.constraint) a o)
      (small : (m r : ℕ) → g.post f (m, tt) r → most_slots * r < 2 ^ 32) where
    abbrev Added : ℕ → ℕ → Type 0
    Added m r = g.post f (m, tt) r

    abbrev Sum : ℕ → ℕ → Type 0
    Sum rest v = Summed away (get_or k.tables.now.home t 0) k t Added rest v

    skip : (v : ℕ) {a rest left : ℕ} → Lowest rest a left → TripAt away (get_or k.tables.now.home t 0) (slots_of k.constraint) a None
        → Sum rest v → Sum left v
    skip v l e w = rw add-zero at (one-more w l 0 (omega arith) (λ f q. rw e refl))

    skips : (xs : List ℕ) (m n : SetBits) (p q : C) (v : ℕ) → p ≡ c → Sum m.rest v → Yields Steps m xs n
        → FoldsTo (λ p x q. Called h p (x, tt) None q) p xs q → (q ≡ c) × Sum n.rest v
    skips [] m n p q v e w y z = (sym z ∙ e, subst (λ (m : SetBits). Sum m.rest v) y w)
    skips (x ∷ xs) m n p q v e w y z =
        let a = gives x None z.0 (subst (λ (p : C). Called h p (x, tt) None z.0) e z.1) in
        skips xs y.0 n z.0 q v a.0 (skip v y.1 a.1 w) y.2 z.2

    -- one trip, which adds r
    adds-one : (s u : Trips) (run r v : ℕ) → s.f ≡ c → Sum s.iter.rest v → TripSteps s (Some run) u → Added run r
        → (u.f ≡ c) × Sum u.iter.rest (v + r)
    adds-one s u run r v e w (xs, o, q, y, z, last) p = go o y last
      where
        go : (o : Option ℕ) → YieldsThen Steps s.iter xs o u.iter
            → MatchOption o ((Some run ≡ None) × (u.f ≡ q)) (λ x. Called h q (x, tt) (Some run) u.f × IsSome (Some run))
            → (u.f ≡ c) × Sum u.iter.rest (v + r)
        go None y last = absurd (subst (λ (o : Option ℕ). MatchOption o ⊥ (λ _. Unit {0})) last.0 tt)
        go (Some x) y last =
            let b = skips xs s.iter y.0 s.f q v e w y.1 z in
            let a = gives x (Some run) u.f (subst (λ (p : C). Called h p (x, tt) (Some run) u.f) b.0 last.0) in
            (a.0, one-more b.1 y.2 r (small run r p) (λ f' d. rw a.1.0 (d x run r (run_of k t lt away front x run a.1.1) p)))

    -- none is left
    no-more : (s u : Trips) (v : ℕ) (r : Option ℕ) → r ≡ None → s.f ≡ c → Sum s.iter.rest v → TripSteps s r u → TripsFigure k t Added v
    no-more s u v r none e w (xs, o, q, y, z, last) = go o y last
      where
        go : (o : Option ℕ) → YieldsThen Steps s.iter xs o u.iter
            → MatchOption o ((r ≡ None) × (u.f ≡ q)) (λ x. Called h q (x, tt) r u.f × IsSome r) → TripsFigure k t Added v
        go None y last = all-summed (skips xs s.iter y.0 s.f q v e w y.1 z).1 y.2.0
        go (Some x) y last = absurd (true≢false (sym (subst (λ (r : Option ℕ). IsSome r) none last.1)))

    module _ (s : Map Trips F) (same : s.f ≡ f) (trips : s.iter.f ≡ c)
        (source : s.iter.iter.rest ≡ bit_and starts (slots_of k.constraint)) where
      none : Sum s.iter.iter.rest 0
      none = none-summed k t lt away front starts s.iter.iter.rest marks source

      sum-along : (xs : List ℕ) (m u : Map Trips F) (v : ℕ) → m.f ≡ f → m.iter.f ≡ c → Sum m.iter.iter.rest v → Yields SumSteps m xs u
          → (u.iter.f ≡ c) × Sum u.iter.iter.rest (fold (λ a x. a + x) v xs)
      sum-along [] m u v i e w y = subst (λ (m : Map Trips F). (m.iter.f ≡ c) × Sum m.iter.iter.rest v) y (e, w)
      sum-along (r ∷ xs) m u v i e w y =
          let step : (run : ℕ) × TripSteps m.iter (Some run) y.0.iter × Called g m.f (run, tt) r y.0.f = y.1 in
          let p : Added step.0 r = subst (λ (p : F). g.post p (step.0, tt) r) i (step_gives g m.f _ r _ laws step.2) in
          let a = adds-one m.iter y.0.iter step.0 r v e w step.1 p in
          sum-along xs y.0 u (v + r) (stays.step_stays _ _ _ _ step.2 ∙ i) a.0 a.1 y.2

      pub trips-fit : EachRunFrom SumSteps s (λ p. fold (λ a x. a + x) 0 p.items < 2 ^ 32)
      unfolding YieldsRun
      trips-fit = λ p _ at.
          let y = subst (λ (u : Map Trips F). Yields SumSteps u p.items p.gave.0.0) at p.gave.0.1 in
          omega (arith, (sum-along p.items s p.gave.0.0 0 same trips none y).1.small)

      pub trips-total : {r : ℕ} → ((xs : List ℕ) × (Unit {0} → Drains SumSteps s xs) × (r ≡ fold (λ a x. a + x) 0 xs)) → TripsFigure k t Added r
      trips-total ran =
          let d = ran.1 tt in
          let a = sum-along ran.0 s d.1.0 0 same trips none d.1.1 in rw ran.2 (no-more d.1.0.iter d.0.iter _ None refl a.0 a.1 d.1.2.0)
