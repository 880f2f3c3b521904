-- A clash is two games of one team in one slot, and it stays when more games are placed. Assumes nothing.
use mathlib.Core.Path.{◌≡◌, refl, sym, ◌∙◌}
use mathlib.Core.List.{List}
use mathlib.Core.Bool.{Bool, true, false, ◌&&◌, ◌||◌, not, or-true, or_assoc}
use mathlib.Core.Logic.{⊎_elim}
use Prim.Native.Nat.{ℕ, suc, ◌-◌, ◌<◌}
use native.Mathlib.Omega.{arith}
use lib.Dec.{eqb, ltb}
use lib.ListN.{length, get_or}
use borrow.Author.Tests.{eqb-true, eqb-false, eq-eqb, not-true, ltb-true, ltb-false}
use Rattle.std.proofs.lemmas.Bool.{and_parts, or_cases}
use Rattle.std.proofs.lemmas.Bool.Decides.{nat_tests}
use Rattle.robinx.specs.Timetable.{share_team, collide, clash}
use Rattle.robinx.proofs.Sums.{any_some, some-any}

module _ (homes aways : List ℕ) where
  -- t is one of the teams of game g
  abbrev pub is_team : ℕ → ℕ → Bool
  is_team t g = eqb t (get_or homes g 0) || eqb t (get_or aways g 0)

  pub is-host : (g : ℕ) → is_team (get_or homes g 0) g ≡ true
  is-host g = rw (eq-eqb (get_or homes g 0) (get_or homes g 0) refl)

  pub is-guest : (g : ℕ) → is_team (get_or aways g 0) g ≡ true
  is-guest g = rw (eq-eqb (get_or aways g 0) (get_or aways g 0) refl, or-true)

  -- what holds of both teams holds of each team of the game
  pub team-cases : (P : ℕ → Type 0) (t g : ℕ) → is_team t g ≡ true → P (get_or homes g 0) → P (get_or aways g 0) → P t
  team-cases P t g e host guest =
      ⊎_elim
      (λ h. rw (eqb-true t (get_or homes g 0) h) host)
      (λ h. rw (eqb-true t (get_or aways g 0) h) guest)
      (or_cases (eqb t (get_or homes g 0)) (eqb t (get_or aways g 0)) e)

  -- game g has team t in slot k
  pub record Plays (sheet : List ℕ) (t k g : ℕ) : Type 0 where
    pub low : g < length homes
    pub slot : get_or sheet g 0 ≡ suc k
    pub team : is_team t g ≡ true

  -- two games have t in slot k
  pub record Clashing (sheet : List ℕ) : Type 0 where
    pub t : ℕ
    pub k : ℕ
    pub g : ℕ
    pub h : ℕ
    pub apart : g ≡ h → ⊥
    pub first : Plays sheet t k g
    pub second : Plays sheet t k h

  share-team : (g h : ℕ) → share_team homes aways g h ≡ is_team (get_or homes g 0) h || is_team (get_or aways g 0) h
  share-team g h = or_assoc (is_team (get_or homes g 0) h) _ _

  module _ (sheet : List ℕ) where
    collides : {t k g h : ℕ} → Plays sheet t k g → Plays sheet t k h → collide homes aways sheet g h ≡ true
    unfolding collide
    collides {t} {k} {g} {h} a b =
        grind (arith, nat_tests, a.slot, b.slot, a.team, b.team)

    pub is-clash : Clashing sheet → clash homes aways sheet ≡ true
    unfolding clash
    is-clash c = go (ltb c.g c.h) refl c.apart
      where
        found : (g h : ℕ) → h < g → Plays sheet c.t c.k g → Plays sheet c.t c.k h → clash homes aways sheet ≡ true
        found g h l a b = any_some _ (length homes) g a.low (any_some _ g h l (collides a b))

        go : (b : Bool) → ltb c.g c.h ≡ b → (c.g ≡ c.h → ⊥) → clash homes aways sheet ≡ true
        go true l d = found c.h c.g (ltb-true c.g c.h l) c.second c.first
        go false l d = found c.g c.h (omega (arith, ltb-false c.g c.h l)) c.first c.second

    pub clash-is : clash homes aways sheet ≡ true → Clashing sheet
    unfolding clash collide
    clash-is e =
        let a = some-any _ (length homes) e in
        let b = some-any _ a.0 a.2 in
        let parts = and_parts (not (eqb (get_or sheet a.0 0) 0) && eqb (get_or sheet a.0 0) (get_or sheet b.0 0)) _ b.2 in
        let slots = and_parts (not (eqb (get_or sheet a.0 0) 0)) _ parts.0 in
        let placed = eqb-false (get_or sheet a.0 0) 0 (not-true (eqb (get_or sheet a.0 0) 0) slots.0) in
        found a.0 b.0 (get_or sheet a.0 0 - 1) a.1 b.1 (omega arith)
        (sym (eqb-true (get_or sheet a.0 0) (get_or sheet b.0 0) slots.1))
        (sym (share-team a.0 b.0) ∙ parts.1)
      where
        found : (g h k : ℕ)
            → g < length homes
            → h < g
            → get_or sheet g 0 ≡ suc k
            → get_or sheet h 0 ≡ get_or sheet g 0
            → is_team (get_or homes g 0) h || is_team (get_or aways g 0) h ≡ true
            → Clashing sheet
        found g h k low l slot same shared =
            ⊎_elim (with-team (get_or homes g 0) (is-host g)) (with-team (get_or aways g 0) (is-guest g))
            (or_cases (is_team (get_or homes g 0) h) _ shared)
          where
            with-team : (t : ℕ) → is_team t g ≡ true → is_team t h ≡ true → Clashing sheet
            with-team t a b = record {
              t = t;
              k = k;
              g = g;
              h = h;
              apart = λ e. omega arith;
              first = record { low = low; slot = slot; team = a };
              second = record { low = omega arith; slot = same ∙ slot; team = b };
            }

  -- a game that keeps its slot
  pub plays-kept : {sheet sheet' : List ℕ} {t k g : ℕ}
      → (get_or sheet g 0 ≡ suc k → get_or sheet' g 0 ≡ suc k)
      → Plays sheet t k g
      → Plays sheet' t k g
  plays-kept keeps a = record { low = a.low; slot = keeps a.slot; team = a.team }

  -- a clash is still there when both of its games keep their slots
  pub clashing-kept : (sheet sheet' : List ℕ) (c : Clashing sheet)
      → ((k : ℕ) → get_or sheet c.g 0 ≡ suc k → get_or sheet' c.g 0 ≡ suc k)
      → ((k : ℕ) → get_or sheet c.h 0 ≡ suc k → get_or sheet' c.h 0 ≡ suc k)
      → clash homes aways sheet' ≡ true
  clashing-kept sheet sheet' c g-keeps h-keeps = is-clash sheet' (record {
    t = c.t;
    k = c.k;
    g = c.g;
    h = c.h;
    apart = c.apart;
    first = plays-kept (g-keeps c.k) c.first;
    second = plays-kept (h-keeps c.k) c.second;
  })
