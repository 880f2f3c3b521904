-- What a check has, for a constraint of a known kind. Assumes nothing.
use mathlib.Core.Path.{◌≡◌, ap, ◌∙◌}
use mathlib.Core.List.{List}
use mathlib.Core.Bool.{true}
use Prim.Native.Nat.{ℕ, zero, suc, ◌<◌, ◌≤◌, ◌^◌}
use native.Mathlib.Omega.{arith}
use lib.Count.{ones}
use lib.ListN.{length}
use Rattle.robinx.specs.Season.{most_slots, slots_of}
use Rattle.robinx.specs.Groups.{has}
use Rattle.robinx.specs.Kinds.{kind_of, form_of, form_at}
use Rattle.robinx.specs.declared.Kind.{Kind}
use Rattle.robinx.specs.declared.Shape.TheVariants.{One, EachTeam, EachPair}
use Rattle.robinx.specs.Deviations.{each, over, in_shape, entries}
use Rattle.robinx.specs.declared.Constraint.{Constraint}
use Rattle.robinx.proofs.Limits.{Obeys, obeyed}
use Rattle.robinx.proofs.Filled.{filled-one}
use Rattle.robinx.proofs.GroupSizes.{size-ones}
use Rattle.robinx.proofs.SetBits.{in-below}
use Rattle.groups.specs.Figures.{Gives, EachFigure}
use Rattle.groups.specs.Pairs.{pairs_in}
use Rattle.groups.proofs.Pairs.{pairs-in}
use Rattle.masks.proofs.Width.{over-stop}
use Rattle.tables.specs.declared.Tables.{Tables}
use Rattle.opponents.specs.Checkable.{Checkable}

-- a group with a member is one of a team or more
some-team : {T : ℕ} (n : ℕ) → 1 ≤ T → T < 2 ^ n → 1 ≤ n
some-team zero a b = omega arith
some-team (suc n) a b = omega arith

module _ {n P : ℕ} {c : Constraint} {ts : Tables} (r : Checkable n P c ts) where
  pub limits : Obeys n P c
  limits = obeyed n P c r.rules

  -- .. those that callers ask for most
  pub mode_least : 1 ≤ c.mode
  mode_least = limits.mode-least

  pub t1_below : c.t1 < 2 ^ n
  t1_below = limits.t1

  pub t2_below : c.t2 < 2 ^ n
  t2_below = limits.t2

  pub teams_least : 1 ≤ n
  teams_least = some-team n limits.t1-least limits.t1

  -- S has no slot from P on
  pub over-slots : (f : ℕ → ℕ) → over most_slots (slots_of c) f ≡ over P (slots_of c) f
  over-slots f = over-stop P most_slots r.slots (slots_of c) f limits.s

  -- a team of T1 is one of the season's
  pub member_below : (t : ℕ) → has c.t1 t ≡ true → t < n
  member_below t h = in-below c.t1 n limits.t1 t h

  -- a place for each deviation of a kind's shape
  pub places_of : (out : List ℕ) {k : Kind} → length out ≡ entries n P c → kind_of c.kind ≡ k → length out ≡ in_shape (form_of k).shape n P c
  unfolding entries form_at
  places_of out room e = room ∙ ap (λ (k : Kind). in_shape (form_of k).shape n P c) e

  -- .. the only one, or one for each team of T1, or for each pair
  pub one-place : (out : List ℕ) {k : Kind} → length out ≡ entries n P c → kind_of c.kind ≡ k → (form_of k).shape ≡ One → length out ≡ 1
  one-place out room e s = rw s at (places_of out room e)

  pub team-places : (out : List ℕ) {k : Kind} → length out ≡ entries n P c → kind_of c.kind ≡ k → (form_of k).shape ≡ EachTeam
      → length out ≡ ones c.t1
  team-places out room e s = rw s at (places_of out room e) ∙ size-ones n c.t1 limits.t1

  pub pair-places : (out : List ℕ) {k : Kind} → length out ≡ entries n P c → kind_of c.kind ≡ k → (form_of k).shape ≡ EachPair
      → length out ≡ pairs_in c.t1
  pair-places out room e s = rw s at (places_of out room e) ∙ pairs-in n c.t1 limits.t1

  -- the figures of T1's teams are f's
  pub each_team : {post : ℕ → ℕ → Type 0} {out : List ℕ} (f : ℕ → ℕ) → EachFigure c.t1 post out → Gives n c.t1 post f → out ≡ each n c.t1 f
  each_team f figures h = figures n f r.teams limits.t1 h

-- what the functions of the kinds ask of a check
pub ruleset check_rules = (mode_least, t1_below, t2_below, teams_least, member_below, one-place, team-places, pair-places, filled-one)
