-- The union of the words of a group's members, one member after the other. Assumes nothing.
use mathlib.Core.Path.{◌≡◌, refl, sym, subst}
use mathlib.Core.List.{List, [], ◌∷◌}
use Prim.Native.Nat.{ℕ, ◌<◌, ◌^◌, max}
use native.Mathlib.Omega.{arith}
use denote.Param.Members.{Mut, Called}
use Rattle.std.specs.Iterator.{ActsAsOnTwo, FoldTurn, CallableInFold, FoldsItems, Yields}
use Rattle.std.specs.List.{FoldsTo}
use Rattle.std.specs.Fn.{Takes}
use lib.Bits.{bit_or}
use Rattle.std.proofs.lemmas.Nat.Bits.{bit_at_or, bit_at-zero}
use Rattle.robinx.specs.Season.{most_teams}
use Rattle.robinx.specs.Sums.{only}
use Rattle.robinx.specs.Groups.{bit, has}
use Rattle.robinx.proofs.Sums.{max-bound}
use Rattle.bits.specs.declared.SetBits.{SetBits}
use Rattle.bits.specs.SetBits.{Lowest, Steps}
use Rattle.bits.proofs.Lowest.{Part, whole, part-left, taken-below}
use Rattle.bits.proofs.Figures.{bare, max-lowest}
use Rattle.bits.proofs.Walk.{serves}
use Rattle.opponents.specs.Games.{Union, in_union}

-- a fold over the walk may make each turn that may be made at a team, where a turn leaves the closure as it is
pub fold-callable : {F : Type 0} (g : Mut F (ℕ × (ℕ × Unit {0})) ℕ) (f : F)
    → ((u t r : ℕ) (q : F) → Called g f (u, (t, tt)) r q → q ≡ f) → {T : ℕ} {m : SetBits} → m.rest ≡ T → T < 2 ^ most_teams
    → ((u t : ℕ) → t < most_teams → Takes g f (u, (t, tt))) → CallableInFold Steps g m f 0
fold-callable {F} g f stays e h asks =
    serves {R = FoldTurn g} (λ p. p.0 ≡ f)
    (λ p q x i k. stays p.1 x q.1 q.0 (subst (λ (f : F). Called g f (p.1, (x, tt)) q.1 q.0) i k))
    {Q = λ p x. Takes g p.0 (p.1, (x, tt))} e h refl
    (λ p x i l b. subst (λ (f : F). Takes g f (p.1, (x, tt))) (sym i) (asks p.1 x l))

-- u and the words of the members in w, which are left, make the whole union
pub record UnionPassed (word : ℕ → ℕ) (T w u : ℕ) : Type 0 where
  pub part : Part w T
  pub union : (k : ℕ) → max (bit u k) (in_union word w most_teams k) ≡ in_union word T most_teams k

module _ (word : ℕ → ℕ) (T : ℕ) (h : T < 2 ^ most_teams) where
  union-start : UnionPassed word T T 0
  union-start = record { part = whole T; union = λ k. rw (bit_at-zero k) (omega arith) }

  union-turn : {w r u t : ℕ} → UnionPassed word T w u → Lowest w t r → UnionPassed word T r (bit_or u (word t))
  union-turn {w} {r} {u} {t} a s = record {
    part = part-left a.part s;
    union = λ k.
        let one = max-lowest s most_teams (taken-below a.part s most_teams h) (λ j. bit (word j) k) in
        omega (arith, a.union k, one, bit_at_or u (word t) k);
  }

  union-end : {w u : ℕ} → UnionPassed word T w u → w ≡ 0 → Union word T most_teams u
  union-end {w} {u} a z k =
      let none = max-bound {f = λ j. only (has 0 j) (bit (word j) k)} most_teams 0 (λ j b. rw (bare j) (omega arith)) in
      omega (arith, rw z at (a.union k), none)

  -- a fold over the walk, whose turns join a member's word
  module _ {F : Type 0} (g : Mut F (ℕ × (ℕ × Unit {0})) ℕ) (f : F) (acts : ActsAsOnTwo g f (λ u t. bit_or u (word t))) where
    along : (xs : List ℕ) (m r : SetBits) (p q : F × ℕ) → p.0 ≡ f → UnionPassed word T m.rest p.1 → Yields Steps m xs r
        → FoldsTo {P = F × ℕ} (FoldTurn g) p xs q → UnionPassed word T r.rest q.1
    along [] m r p q e w y k = rw (← y, ← k) w
    along (t ∷ xs) m r p q e w y k =
        let a = acts p.1 t k.0.1 k.0.0 (subst (λ (f : F). Called g f (p.1, (t, tt)) k.0.1 k.0.0) e k.1) in
        along xs y.0 r k.0 q a.0 (rw a.1 (union-turn w y.1)) y.2 k.2

    pub union-fold : {m : SetBits} {u : ℕ} → m.rest ≡ T → FoldsItems Steps g m f 0 u → Union word T most_teams u
    union-fold {m} {u} e d =
        let w = along d.0 m d.2.1.0 (f, 0) (d.1, u) refl (rw e union-start) d.2.1.1 d.3 in union-end w d.2.1.2.0
