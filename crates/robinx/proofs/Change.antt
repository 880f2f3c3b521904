-- The change law: when a game gets another slot, x differs at most at that game's two points; so the deviations of a constraint that
-- reads neither stay. Of the sheet it asks only that it has the game.
use mathlib.Core.Path.{◌≡◌, refl, sym, ap, ◌∙◌}
use mathlib.Core.List.{List}
use mathlib.Core.Logic.{◌≢◌}
use mathlib.Core.Bool.{Bool, true, false, ◌&&◌, ◌||◌, not, false≢true}
use Prim.Native.Nat.{ℕ, suc, ◌<◌}
use native.Mathlib.Decide.{ℕ_discrete}
use lib.Dec.{eqb}
use lib.ListN.{length, get_or, set, length-set}
use lib.Seq.{get_or-set_same, get_or-set_other, set-get_or}
use borrow.Author.Tests.{eqb-true}
use Rattle.std.proofs.lemmas.Bool.{or_parts, and_parts, false_from_ne_true}
use Rattle.robinx.specs.Sums.{only}
use Rattle.robinx.specs.Season.{Instance}
use Rattle.robinx.specs.Timetable.{is_at, meetings}
use Rattle.robinx.specs.Deviations.{deviations}
use Rattle.robinx.specs.Touch.{scope, hits, touches}
use Rattle.robinx.specs.Books.{timetable, deviations_at}
use Rattle.robinx.specs.Calls.{Call, moved, touched_by, touched}
use Rattle.robinx.specs.declared.Constraint.{Constraint}
use Rattle.robinx.proofs.Ext.{sum-ext}
use Rattle.robinx.proofs.Agree.{agreement}

-- (i, j, k) is the point of x at which the game of i₀ at home against j₀ counts when it is in slot s of the sheet
abbrev pub PointOf : ℕ → ℕ → ℕ → ℕ → ℕ → ℕ → Type 0
PointOf i₀ j₀ s i j k = (i₀ ≡ i) × (j₀ ≡ j) × (s ≡ suc k)

elsewhere : (i₀ j₀ s i j k : ℕ) → ¬ PointOf i₀ j₀ s i j k → (eqb i₀ i && eqb j₀ j && eqb s (suc k)) ≡ false
elsewhere i₀ j₀ s i j k h = false_from_ne_true (eqb i₀ i && eqb j₀ j && eqb s (suc k)) (λ e.
    let p = and_parts (eqb i₀ i && eqb j₀ j) (eqb s (suc k)) e in
    let q = and_parts (eqb i₀ i) (eqb j₀ j) p.0 in
    h (eqb-true i₀ i q.0, eqb-true j₀ j q.1, eqb-true s (suc k) p.1))

pub change-law : (home away sheet : List ℕ) (g b : ℕ) → g < length sheet → (i j k : ℕ)
    → ¬ PointOf (get_or home g 0) (get_or away g 0) (get_or sheet g 0) i j k
    → ¬ PointOf (get_or home g 0) (get_or away g 0) b i j k
    → meetings home away sheet i j k ≡ meetings home away (set sheet g b) i j k
unfolding meetings is_at
change-law home away sheet g b fits i j k old new =
    sum-ext (length home) (λ a l. ap (λ (t : Bool). only t 1) (go a (ℕ_discrete a g)))
  where
    go : (a : ℕ) → Dec (a ≡ g) → is_at home away sheet i j k a ≡ is_at home away (set sheet g b) i j k a
    go a (yes e) =
        rw (e, get_or-set_same sheet g b 0 fits)
        (elsewhere (get_or home g 0) (get_or away g 0) _ i j k old ∙ sym (elsewhere (get_or home g 0) (get_or away g 0) b i j k new))
    go a (no e) = rw (get_or-set_other sheet g a b 0 e)

-- a constraint that does not read a game in slot s has no such point in its scope
unread : (c : Constraint) (i₀ j₀ s i j k : ℕ) → hits c i₀ j₀ s ≡ false → scope c i j k ≡ true → ¬ PointOf i₀ j₀ s i j k
unread c i₀ j₀ s i j k h r (ei, ej, es) = false≢true cc

pub kept : (n P : ℕ) (c : Constraint) (home away sheet : List ℕ) (g b : ℕ) → g < length sheet
    → touches c (get_or home g 0) (get_or away g 0) (get_or sheet g 0) b ≡ false
    → deviations n P c (meetings home away sheet) ≡ deviations n P c (meetings home away (set sheet g b))
unfolding touches
kept n P c home away sheet g b fits h = go (eqb a b) refl h
  where
    a : ℕ
    a = get_or sheet g 0

    i₀ : ℕ
    i₀ = get_or home g 0

    j₀ : ℕ
    j₀ = get_or away g 0

    go : (t : Bool) → eqb a b ≡ t → (not t && (hits c i₀ j₀ a || hits c i₀ j₀ b)) ≡ false
        → deviations n P c (meetings home away sheet) ≡ deviations n P c (meetings home away (set sheet g b))
    go true e u = rw (← eqb-true a b e, set-get_or)
    go false e u =
        let o = or_parts (hits c i₀ j₀ a) (hits c i₀ j₀ b) u in
        agreement n P (meetings home away sheet) (meetings home away (set sheet g b)) c (λ i j k li lj lk r.
        change-law home away sheet g b fits i j k (unread c i₀ j₀ a i j k o.0 r) (unread c i₀ j₀ b i j k o.1 r))

-- every game number of the call is one of the sheet's, and the two of an exchange differ
abbrev pub Good : List ℕ → Call → Type 0
Good sheet (Call.set_slot g s) = g < length sheet
Good sheet (Call.exchange g h) = (g < length sheet) × (h < length sheet) × (h ≢ g)

-- what a call does not touch keeps its deviations
pub call_kept : (m : Instance) (sheet : List ℕ) (k : Call) (c : ℕ) → Good sheet k → touched m sheet k c ≡ false
    → deviations_at m (timetable m sheet) c ≡ deviations_at m (timetable m (moved sheet k)) c
unfolding moved touched
call_kept m sheet (Call.set_slot g s) c good t = kept m.n m.P (m.constraint c) m.home m.away sheet g s good t
call_kept m sheet (Call.exchange g h) c good t =
    let a : ℕ = get_or sheet g 0 in
    let b : ℕ = get_or sheet h 0 in
    let o = or_parts (touched_by m sheet g b c) (touched_by m sheet h a c) t in
    kept m.n m.P (m.constraint c) m.home m.away sheet g b good.0 o.0
    ∙ kept m.n m.P (m.constraint c) m.home m.away (set sheet g b) h a
    (rw length-set good.1)
    (rw (get_or-set_other sheet g h b 0 good.2) o.1)
