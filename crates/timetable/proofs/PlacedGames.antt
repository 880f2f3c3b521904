-- What the tables of a sheet say of its games: a placed game has its three bits, a busy team has a game. Assumes nothing.
use mathlib.Core.Path.{◌≡◌, sym, ◌∙◌}
use mathlib.Core.List.{List}
use mathlib.Core.Bool.{true, ◌&&◌, or-true}
use mathlib.Core.Logic.{⊎_elim}
use Prim.Native.Nat.{ℕ, suc, ◌<◌, ◌≤◌}
use native.Mathlib.Omega.{arith}
use lib.Dec.{eqb}
use lib.ListN.{length, get_or}
use borrow.Author.Tests.{eqb-true, eq-eqb, lt-ltb}
use Rattle.std.proofs.lemmas.Bool.{and_parts, or_cases}
use Rattle.std.proofs.lemmas.Bool.Decides.{nat_tests}
use Rattle.robinx.specs.Sums.{only}
use Rattle.robinx.specs.Groups.{bit, has}
use Rattle.robinx.specs.Season.{most_slots}
use Rattle.robinx.specs.Timetable.{is_at, meetings}
use Rattle.robinx.proofs.Sums.{any-is-sum, some-any, some-term, term-le-sum}
use Rattle.tables.specs.declared.Tables.{Tables}
use Rattle.tables.specs.Tables.{hosting, x_of, busy}
use Rattle.timetable.specs.OfSheet.{Shows, InRange}
use Rattle.timetable.proofs.Clash.{team-cases, Plays}

module _ {n : ℕ} {t : Tables} {homes aways sheet : List ℕ} (range : InRange n homes aways sheet) (shows : Shows n t homes aways sheet)
    (k : ℕ) (lk : k < most_slots) where
  -- a game in slot k
  module _ (g : ℕ) (low : g < length homes) (placed : get_or sheet g 0 ≡ suc k) where
    abbrev i : ℕ
    i = get_or homes g 0

    abbrev j : ℕ
    j = get_or aways g 0

    met : 1 ≤ meetings homes aways sheet i j k
    unfolding meetings is_at
    met =
        let here : only (is_at homes aways sheet i j k g) 1 ≡ 1 =
        grind (arith, nat_tests, placed) in
        omega (arith, term-le-sum (λ h. only (is_at homes aways sheet i j k h) 1) g (length homes) low)

    pub game-meets : bit (hosting t.meets (get_or homes g 0) (get_or aways g 0)) k ≡ 1
    game-meets = omega (arith, met, shows.x i j k (range.teams.home-below g low) (range.teams.away-below g low) lk)

    pub game-home : bit (get_or t.home (get_or homes g 0) 0) k ≡ 1
    game-home =
        omega (
          arith,
          game-meets,
          shows.tied.home-row i k (range.teams.home-below g low) lk,
          term-le-sum (λ q. x_of t.meets i q k) j n (range.teams.away-below g low),
        )

    pub game-away : bit (get_or t.away (get_or aways g 0) 0) k ≡ 1
    game-away =
        omega (
          arith,
          game-meets,
          shows.tied.away-row j k (range.teams.away-below g low) lk,
          term-le-sum (λ p. x_of t.meets p j k) i n (range.teams.home-below g low),
        )

  pub game-busy : {s g : ℕ} → Plays homes aways sheet s k g → busy t.home t.away s k ≡ true
  game-busy {s} {g} a =
      team-cases homes aways (λ q. busy t.home t.away q k ≡ true) s g a.team
      (rw (game-home g a.low a.slot))
      (rw (game-away g a.low a.slot, or-true))

  -- a meeting is a game of each of its teams
  met-game : (p q : ℕ)
      → p < n
      → q < n
      → 0 < x_of t.meets p q k
      → (g : ℕ) × Plays homes aways sheet p k g × Plays homes aways sheet q k g
  unfolding meetings is_at
  met-game p q lp lq some =
      let game = is_at homes aways sheet p q k in
      let s = some-any game (length homes) (any-is-sum game (length homes) ∙ lt-ltb 0 _ (rw (← shows.x p q k lp lq lk) some)) in
      let at = and_parts (eqb (get_or homes s.0 0) p && eqb (get_or aways s.0 0) q) _ s.2 in
      let teams = and_parts (eqb (get_or homes s.0 0) p) _ at.0 in
      let slot = eqb-true (get_or sheet s.0 0) (suc k) at.1 in
      let host = eq-eqb p (get_or homes s.0 0) (sym (eqb-true (get_or homes s.0 0) p teams.0)) in
      let guest = eq-eqb q (get_or aways s.0 0) (sym (eqb-true (get_or aways s.0 0) q teams.1)) in
      (s.0, record { low = s.1; slot = slot; team = rw host }, record { low = s.1; slot = slot; team = rw (guest, or-true) })

  pub busy-game : (s : ℕ) → s < n → busy t.home t.away s k ≡ true → (g : ℕ) × Plays homes aways sheet s k g
  busy-game s ls b =
      ⊎_elim
      (λ e.
      let other = some-term (λ q. x_of t.meets s q k) n (omega (arith, eqb-true (bit (get_or t.home s 0) k) 1 e, shows.tied.home-row s k ls lk)) in
      let m = met-game s other.0 ls other.1 other.2 in
      (m.0, m.1))
      (λ e.
      let other = some-term (λ p. x_of t.meets p s k) n (omega (arith, eqb-true (bit (get_or t.away s 0) k) 1 e, shows.tied.away-row s k ls lk)) in
      let m = met-game other.0 s other.1 ls other.2 in
      (m.0, m.2))
      (or_cases (has (get_or t.home s 0) k) (has (get_or t.away s 0) k) b)
