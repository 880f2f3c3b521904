-- One pass over the games finds sentence 4: what the table of meetings holds after each game, and what it says of all of them.
use mathlib.Core.Path.{◌≡◌, refl, sym, ◌∙◌}
use mathlib.Core.List.{List, [], ◌∷◌}
use mathlib.Core.Bool.{Bool, true, false, ◌&&◌, ◌||◌}
use Prim.Native.Nat.{ℕ, ◌+◌, ◌<◌, ◌≤◌, min, max}
use native.Mathlib.Omega.{arith}
use lib.Dec.{eqb, leb, ltb}
use lib.ListN.{length, get_or, replicate, length-replicate, get_or-replicate}
use borrow.Author.Tests.{leb-true, leb-false, lt-leb, eq-eqb, ne_eqb, lt-ltb, le-ltb}
use Rattle.std.proofs.lemmas.Bool.Decides.{nat_tests}
use Rattle.std.proofs.lemmas.Grind.{common_steps}
use Rattle.std.proofs.Common.{Ok, Err, below_more}
use Rattle.std.proofs.lemmas.Bool.{or_parts}
use Rattle.robinx.specs.Season.{decode, home_teams, away_teams, most_teams, most_meetings}
use Rattle.robinx.specs.Sums.{sum_to, only}
use Rattle.robinx.specs.Refusals.{is_between, encounters, bad_game, sentence, sentence3, sentence4, first_true}
use Rattle.robinx.specs.RefusalNumbers.{number_of}
use Rattle.robinx.specs.declared.Refusal.{Refusal}
use Rattle.robinx.proofs.Sums.{sum_step, sum_mono, any_some, none_any}
use Rattle.robinx.proofs.Limits.{decode-home}
use Rattle.robinx.proofs.Passed.{none_true, never-0}
use Rattle.games.specs.Meetings.{of_games, met, met_again, refused, CountsGame}

-- the teams of a game are two of n
pub record Fit (n i j : ℕ) : Type 0 where
  pub home : i < n
  pub away : j < n
  pub differ : i ≡ j → ⊥

-- as many rows as teams, each as long
pub record Square (meetings : List (List ℕ)) : Type 0 where
  pub long : length meetings ≡ most_teams
  pub wide : (i : ℕ) → i < most_teams → length (get_or meetings i []) ≡ most_teams

-- after g games: their teams fit, and the table has every pair's meetings, at most 8
pub record MeetingsCounted (n : ℕ) (home away : List ℕ) (meetings : List (List ℕ)) (g : ℕ) : Type 0 where
  pub square : Square meetings
  pub fit : (k : ℕ) → k < g → Fit n (get_or home k 0) (get_or away k 0)
  pub met : (i j : ℕ) → Fit most_teams i j
      → (met meetings i j ≡ encounters home away i j g) × (encounters home away i j g ≤ most_meetings)

-- i and j have the row and the place in it that h and a have
same_two : ℕ → ℕ → ℕ → ℕ → Bool
same_two h a i j = eqb (min i j) (min h a) && eqb (max i j) (max h a)

-- h meets a where i and j do: the test by teams is the test by places
meets_at : (h a i j : ℕ) → eqb h i && eqb a j || eqb h j && eqb a i ≡ same_two h a i j
unfolding same_two
meets_at h a i j = grind (arith, nat_tests)

module _ {meetings : List (List ℕ)} (sq : Square meetings) (h a : ℕ) (f : Fit most_teams h a) where
  met-more : (i j : ℕ) → Fit most_teams i j → met (met_again meetings h a) i j ≡ met meetings i j + only (same_two h a i j) 1
  unfolding same_two
  met-more i j o = grind (arith, common_steps, nat_tests, sq.long, sq.wide)

  square-more : Square (met_again meetings h a)
  square-more = record { long = grind (arith, common_steps, sq.long); wide = λ i l. grind (arith, common_steps, sq.wide) }

-- each row of an empty table
none-row : (i : ℕ) → i < most_teams → get_or (replicate most_teams (replicate {A = ℕ} most_teams 0)) i [] ≡ replicate most_teams 0
none-row i l = get_or-replicate {A = List ℕ} most_teams i (replicate {A = ℕ} most_teams 0) [] l

pub counted_none : (n : ℕ) (home away : List ℕ) → MeetingsCounted n home away (replicate most_teams (replicate most_teams 0)) 0
unfolding encounters sum_to
counted_none n home away = record {
  square = record {
    long = length-replicate {A = List ℕ} most_teams (replicate {A = ℕ} most_teams 0);
    wide = λ i l. rw (none-row i l) (length-replicate {A = ℕ} most_teams 0);
  };
  fit = λ k l. absurd (omega (arith, l));
  met = λ i j f. (
    rw (none-row (min i j) (omega (arith, f.home, f.away))) (get_or-replicate {A = ℕ} most_teams (max i j) 0 0 (omega (arith, f.home, f.away))),
    omega arith,
  );
}

-- what an answer tells of the one test behind it
passes : (b : Bool) → 0 ≡ first_true (sentence 4 b ∷ []) → b ≡ false
passes b e = (none_true (sentence 4 b ∷ []) (sym e)).0

fails : (b : Bool) (r : Refusal) → number_of r ≡ first_true (sentence 4 b ∷ []) → b ≡ true
unfolding first_true
fails true r e = refl
fails false r e = absurd (never-0 r e)

pub teams-fit : (i j n : ℕ) → leb n i || leb n j || eqb i j ≡ false → Fit n i j
teams-fit i j n e = record { home = grind (arith, nat_tests); away = grind (arith, nat_tests); differ = grind (arith, nat_tests) }

module _ {n : ℕ} (small : n ≤ most_teams) {home away : List ℕ} {meetings : List (List ℕ)} {g : ℕ}
    (old : MeetingsCounted n home away meetings g) where
  abbrev h : ℕ
  h = get_or home g 0

  abbrev a : ℕ
  a = get_or away g 0

  wider : Fit n h a → Fit most_teams h a
  wider f = record { home = omega (arith, f.home); away = omega (arith, f.away); differ = f.differ }

  -- the meetings of i and j: one more where this game is theirs
  one_more : (i j : ℕ) → encounters home away i j (g + 1) ≡ encounters home away i j g + only (same_two h a i j) 1
  unfolding encounters
  one_more i j = sum_step (λ k. only (is_between home away i j k) 1) g ∙ rw (meets_at h a i j)

  counted-more : refused meetings h a n ≡ false → MeetingsCounted n home away (met_again meetings h a) (g + 1)
  unfolding refused same_two
  counted-more e =
      let free = or_parts (leb n h || leb n a || eqb h a) (leb 8 (met meetings h a)) e in
      let few = leb-false 8 (met meetings h a) free.1 in
      let f = teams-fit h a n free.0 in
      record {
        square = square-more old.square h a (wider f);
        fit = below_more (λ k. Fit n (get_or home k 0) (get_or away k 0)) g old.fit f;
        met = λ i j o.
            let v = old.met i j o in
            let w = one_more i j in (
              met-more old.square h a (wider f) i j o ∙ rw v.0 (sym w),
              grind (arith, nat_tests, v.0, v.1, w, few),
            );
      }

  -- a game that is counted
  pub counted-next : {after : List (List ℕ)} {x : Unit {0}} → CountsGame h a n meetings after (Ok x) → MeetingsCounted n home away after (g + 1)
  counted-next c = rw c.counted (counted-more (passes _ c.fault))

  counted-bad : g < length home → refused meetings h a n ≡ true → sentence4 (of_games n home away) ≡ true
  unfolding refused sentence4 bad_game encounters same_two
  counted-bad l e = any_some (bad_game (of_games n home away)) (length home) g l (go (leb n h || leb n a || eqb h a) refl e)
    where
      ninth : Fit n h a → 8 ≤ met meetings h a → 8 < encounters home away h a (length home)
      ninth f m =
          let w = rw (eq-eqb (min h a) (min h a) refl, eq-eqb (max h a) (max h a) refl) at (one_more h a) in
          omega (arith, w, (old.met h a (wider f)).0, sum_mono (λ k. only (is_between home away h a k) 1) (g + 1) (length home) (omega arith))

      go : (b : Bool) → leb n h || leb n a || eqb h a ≡ b → b || leb 8 (met meetings h a) ≡ true
          → b || ltb 8 (encounters home away h a (length home)) ≡ true
      go true q e = refl
      go false q e = lt-ltb 8 _ (ninth (teams-fit h a n q) (leb-true 8 _ e))

  -- .. and one that cannot be
  pub stops : {after : List (List ℕ)} {r : Refusal} → g < length home → CountsGame h a n meetings after (Err r)
      → number_of r ≡ first_true (sentence 4 (sentence4 (of_games n home away)) ∷ [])
  stops {r = r} l c = let bad = fails _ r c.fault in rw (counted-bad l bad) (rw bad at c.fault)

pub counted-good : {n : ℕ} → n ≤ most_teams → {home away : List ℕ} {meetings : List (List ℕ)}
    → MeetingsCounted n home away meetings (length home)
    → 0 ≡ first_true (sentence 4 (sentence4 (of_games n home away)) ∷ [])
unfolding first_true sentence4 bad_game
counted-good {n} small {home} {away} all = rw (none_any (bad_game (of_games n home away)) (length home) (λ k l.
    let f = all.fit k l in
    rw (
      lt-leb n (get_or home k 0) f.home,
      lt-leb n (get_or away k 0) f.away,
      ne_eqb (get_or home k 0) (get_or away k 0) f.differ,
    )
    (le-ltb 8 _ (all.met _ _ (record { home = omega (arith, f.home); away = omega (arith, f.away); differ = f.differ })).1)))

-- sentence 4 reads the number of teams and the games alone
pub games-alone : (s : List ℕ) → sentence3 s ≡ false → sentence4 (of_games (decode s).n (home_teams s) (away_teams s)) ≡ sentence4 (decode s)
unfolding sentence4 bad_game decode
games-alone s h = rw (decode-home s h)
