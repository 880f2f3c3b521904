-- A game lifted from a sheet and a game placed on it: the tables stay those of the sheet, and a busy team is a clash. Assumes nothing.
use mathlib.Core.Path.{◌≡◌, sym, ap, ◌∙◌}
use mathlib.Core.List.{List}
use mathlib.Core.Bool.{Bool, true, false, or-true, true≢false}
use mathlib.Core.Logic.{⊎_elim}
use Prim.Native.Nat.{ℕ, suc, ◌<◌, ◌≤◌}
use native.Mathlib.Omega.{arith}
use native.Mathlib.Decide.{ℕ_discrete}
use lib.ListN.{length, get_or, set, length-set}
use lib.Seq.{get_or-set_same, get_or-set_other, set-set, set-get_or}
use Rattle.std.proofs.lemmas.Bool.{or_parts, or_cases, false_from_ne_true}
use Rattle.std.proofs.lemmas.Bool.Decides.{same_from_decides}
use Rattle.std.proofs.lemmas.Grind.{common_steps}
use Rattle.robinx.specs.Groups.{has}
use Rattle.robinx.specs.Season.{most_slots}
use Rattle.robinx.specs.Timetable.{meetings, clash}
use Rattle.robinx.proofs.Sums.{term-le-sum}
use Rattle.robinx.proofs.Bits.{out-bit}
use Rattle.tables.specs.declared.Tables.{Tables}
use Rattle.tables.specs.Tables.{tables, hosted_by, hosting, x_of, Sized, busy, taken, put_into, taken_out_of}
use Rattle.timetable.specs.OfSheet.{Shows, InRange}
use Rattle.timetable.proofs.Points.{joined-more, without-less, set-gains, set-loses}
use Rattle.timetable.proofs.Tied.{MeetsMore, row-gains, row-loses, shows_more, shows-less}
use Rattle.timetable.proofs.Sheet.{meetings-more}
use Rattle.timetable.proofs.Clash.{is_team, is-host, is-guest, team-cases, Plays, Clashing, is-clash, clash-is, plays-kept, clashing-kept}
use Rattle.timetable.proofs.PlacedGames.{game-meets, game-home, game-away, game-busy, busy-game}

pub in-range-set : {n : ℕ} {homes aways sheet : List ℕ} (g b : ℕ)
    → b ≤ most_slots
    → InRange n homes aways sheet
    → InRange n homes aways (set sheet g b)
in-range-set {homes = homes} {sheet = sheet} g b lb range = record {
  teams = range.teams;
  sheet-length = length-set sheet g b ∙ range.sheet-length;
  slot-low = λ h lh. grind (arith, common_steps, lb, range.sheet-length, range.slot-low h lh);
}

-- a game that had no slot gets one: what was a clash still is
pub clash-stays : (homes aways sheet : List ℕ) (g b : ℕ)
    → get_or sheet g 0 ≡ 0
    → clash homes aways sheet ≡ true
    → clash homes aways (set sheet g b) ≡ true
clash-stays homes aways sheet g b lifted e =
    let c = clash-is homes aways sheet e in
    clashing-kept homes aways sheet (set sheet g b) c (keeps c.g) (keeps c.h)
  where
    keeps : (h k : ℕ) → get_or sheet h 0 ≡ suc k → get_or (set sheet g b) h 0 ≡ suc k
    keeps h k s = grind (arith, common_steps, lifted, s)

-- no clash stays so when a game is lifted
pub clash-lift : (homes aways sheet : List ℕ) (g : ℕ)
    → g < length sheet
    → clash homes aways sheet ≡ false
    → clash homes aways (set sheet g 0) ≡ false
clash-lift homes aways sheet g low none = false_from_ne_true _ (λ e. true≢false (sym (back e) ∙ none))
  where
    back : clash homes aways (set sheet g 0) ≡ true → clash homes aways sheet ≡ true
    back e =
        rw (set-set, set-get_or) at
        (clash-stays homes aways (set sheet g 0) g (get_or sheet g 0) (get_or-set_same sheet g 0 0 low) e)

-- Game g of a sheet whose tables these are.
module _ {n : ℕ} {t : Tables} {homes aways sheet : List ℕ} (range : InRange n homes aways sheet) (g : ℕ) (low : g < length homes)
    (shows : Shows n t homes aways sheet) where
  abbrev i : ℕ
  i = get_or homes g 0

  abbrev j : ℕ
  j = get_or aways g 0

  li : i < n
  li = range.teams.home-below g low

  lj : j < n
  lj = range.teams.away-below g low

  in-home : i < length t.home
  in-home = omega (arith, li, range.teams.few, shows.tied.sized.home-length)

  in-away : j < length t.away
  in-away = omega (arith, lj, range.teams.few, shows.tied.sized.away-length)

  in-meets : i < length t.meets
  in-meets = omega (arith, li, range.teams.few, shows.tied.sized.meets-length)

  in-row : j < length (hosted_by t.meets i)
  in-row = omega (arith, li, lj, range.teams.few, shows.tied.sized.row-length i)

  sized_set : (u v w : ℕ) → Sized (tables (set t.home i u) (set t.away j v) (set t.meets i (set (hosted_by t.meets i) j w)))
  sized_set u v w = record {
    home-length = length-set t.home i u ∙ shows.tied.sized.home-length;
    away-length = length-set t.away j v ∙ shows.tied.sized.away-length;
    meets-length = length-set t.meets i (set (hosted_by t.meets i) j w) ∙ shows.tied.sized.meets-length;
    row-length = λ p l. grind (arith, common_steps, in-meets, shows.tied.sized.row-length p l);
  }

  pub lift-law : (k : ℕ) → get_or sheet g 0 ≡ suc k
      → Shows n (taken_out_of (get_or homes g 0) (get_or aways g 0) (suc k) t) homes aways (set sheet g 0)
  lift-law k placed =
      shows-less n i j k (taken_out_of i j (suc k) t) t li lj
      (set-loses t.home i k in-home _ (without-less (get_or t.home i 0) k (game-home range shows k lk g low placed)))
      (set-loses t.away j k in-away _ (without-less (get_or t.away j 0) k (game-away range shows k lk g low placed)))
      (row-loses n i j k t.meets in-meets _
      (set-loses (hosted_by t.meets i) j k in-row _ (without-less (hosting t.meets i j) k (game-meets range shows k lk g low placed))))
      homes aways (set sheet g 0) sheet
      more
      (sized_set _ _ _)
      shows
    where
      lk : k < most_slots
      lk = omega (arith, range.slot-low g low)

      back : set (set sheet g 0) g (suc k) ≡ sheet
      back = set-set sheet g 0 (suc k) ∙ ap (set sheet g) (sym placed) ∙ set-get_or sheet g 0

      slot : get_or (set sheet g 0) g 0 ≡ 0
      slot = get_or-set_same sheet g 0 0 (omega (arith, range.sheet-length))

      more : MeetsMore n (get_or homes g 0) (get_or aways g 0) k (meetings homes aways (set sheet g 0)) (meetings homes aways sheet)
      more p q a lp lq =
          ap (λ (s : List ℕ). meetings homes aways s p q a) (sym back)
          ∙ meetings-more n homes aways (set sheet g 0) g k (length-set sheet g 0 ∙ range.sheet-length) low slot p q a lp lq

  -- The game has no slot and gets slot k.
  module _ (k : ℕ) (lk : k < most_slots) (lifted : get_or sheet g 0 ≡ 0) where
    -- one of its teams is busy there
    abbrev occupied : Bool
    occupied = taken t.home t.away i j k

    pub place-law : taken t.home t.away (get_or homes g 0) (get_or aways g 0) k ≡ false
        → Shows n (put_into (get_or homes g 0) (get_or aways g 0) (suc k) t) homes aways (set sheet g (suc k))
    place-law none =
        let free = or_parts (busy t.home t.away i k) (busy t.home t.away j k) none in
        let host = or_parts (has (get_or t.home i 0) k) (has (get_or t.away i 0) k) free.0 in
        let guest = or_parts (has (get_or t.home j 0) k) (has (get_or t.away j 0) k) free.1 in
        let at_home = out-bit (get_or t.home i 0) k host.0 in
        let at-away = out-bit (get_or t.away j 0) k guest.1 in
        let not-met : x_of t.meets i j k ≡ 0 =
        omega (arith, at_home, shows.tied.home-row i k li lk, term-le-sum (λ q. x_of t.meets i q k) j n lj) in
        shows_more n i j k t (put_into i j (suc k) t) li lj
        (set-gains t.home i k in-home _ (joined-more (get_or t.home i 0) k at_home))
        (set-gains t.away j k in-away _ (joined-more (get_or t.away j 0) k at-away))
        (row-gains n i j k t.meets in-meets _ (set-gains (hosted_by t.meets i) j k in-row _ (joined-more (hosting t.meets i j) k not-met)))
        homes aways sheet (set sheet g (suc k))
        (meetings-more n homes aways sheet g k range.sheet-length low lifted)
        (sized_set _ _ _)
        (range.teams.differ g low)
        (omega (arith, at_home, out-bit (get_or t.away i 0) k host.1))
        (omega (arith, at-away, out-bit (get_or t.home j 0) k guest.0))
        shows

    after : List ℕ
    after = set sheet g (suc k)

    here : get_or after g 0 ≡ suc k
    unfolding after
    here = get_or-set_same sheet g (suc k) 0 (omega (arith, range.sheet-length))

    there : (h : ℕ) → (h ≡ g → ⊥) → get_or after h 0 ≡ get_or sheet h 0
    unfolding after
    there h e = get_or-set_other sheet g h (suc k) 0 e

    -- a busy team of the game has another game in the slot
    busy-clash : (s : ℕ) → s < n → is_team homes aways s g ≡ true → busy t.home t.away s k ≡ true → clash homes aways after ≡ true
    busy-clash s ls team b =
        let other = busy-game range shows k lk s ls b in
        let apart : other.0 ≡ g → ⊥ = λ e. omega (arith, lifted, other.1.slot, ap (λ (z : ℕ). get_or sheet z 0) e) in
        is-clash homes aways after (record {
          t = s;
          k = k;
          g = g;
          h = other.0;
          apart = λ e. apart (sym e);
          first = record { low = low; slot = here; team = team };
          second = plays-kept homes aways (λ p. there other.0 apart ∙ p) other.1;
        })

    -- another game in a clash with it
    clash-busy : (s a h : ℕ) → (g ≡ h → ⊥) → Plays homes aways after s a g → Plays homes aways after s a h → occupied ≡ true
    clash-busy s a h apart mine other =
        let slot : suc a ≡ suc k = sym mine.slot ∙ here in
        let b = game-busy range shows k lk (record {
          low = other.low;
          slot = sym (there h (λ e. apart (sym e))) ∙ other.slot ∙ slot;
          team = other.team;
        }) in
        team-cases homes aways (λ q. busy t.home t.away q k ≡ true → occupied ≡ true) s g mine.team (λ e. rw e) (λ e. rw (e, or-true)) b

    pub busy-is-clash : clash homes aways sheet ≡ false
        → taken t.home t.away (get_or homes g 0) (get_or aways g 0) k ≡ clash homes aways (set sheet g (suc k))
    unfolding after
    busy-is-clash none = same_from_decides _ _ (to, from) (λ e. e, λ e. e)
      where
        to : occupied ≡ true → clash homes aways after ≡ true
        to e =
            ⊎_elim (busy-clash i li (is-host homes aways g)) (busy-clash j lj (is-guest homes aways g))
            (or_cases (busy t.home t.away i k) (busy t.home t.away j k) e)

        go : (c : Clashing homes aways after) → Dec (c.g ≡ g) → Dec (c.h ≡ g) → occupied ≡ true
        go c (yes p) q = clash-busy c.t c.k c.h (λ e. c.apart (p ∙ e)) (rw p at c.first) c.second
        go c (no p) (yes q) = clash-busy c.t c.k c.g (λ e. c.apart (sym e ∙ sym q)) (rw q at c.second) c.first
        go c (no p) (no q) =
            absurd
            (true≢false
            (sym (clashing-kept homes aways after sheet c (λ a s. sym (there c.g p) ∙ s) (λ a s. sym (there c.h q) ∙ s)) ∙ none))

        from : clash homes aways after ≡ true → occupied ≡ true
        from e = let c = clash-is homes aways after e in go c (ℕ_discrete c.g g) (ℕ_discrete c.h g)
