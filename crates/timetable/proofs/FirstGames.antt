-- The sheet whose games from g on have no slot yet, which is what the tables show before turn g of build, and the count of games that
-- have none. Assumes nothing.
use mathlib.Core.Path.{◌≡◌, sym, ap, ◌∙◌}
use mathlib.Core.List.{List, []}
use mathlib.Core.Bool.{true, not, and-false}
use Prim.Native.Nat.{ℕ, zero, suc, ◌+◌, ◌<◌, ◌≤◌}
use native.Mathlib.Omega.{arith}
use lib.Dec.{eqb, eqb-zero-suc}
use lib.ListN.{length, get_or, set, replicate, length-set, length-replicate, get_or-replicate}
use lib.Seq.{get_or-set_same, get_or-set_other, ext_get_or}
use Rattle.std.proofs.lemmas.Bool.{false_from_ne_true}
use Rattle.std.proofs.lemmas.Grind.{common_steps}
use Rattle.std.proofs.lemmas.Nat.Bits.{bit_at-zero}
use Rattle.robinx.specs.Sums.{only}
use Rattle.robinx.specs.Groups.{bit}
use Rattle.robinx.specs.Season.{most_teams}
use Rattle.robinx.specs.Timetable.{is_at, meetings, clash}
use Rattle.robinx.proofs.Sums.{only-le, sum-zero, sum_step, sum_bound}
use Rattle.tables.specs.declared.Tables.{Tables}
use Rattle.tables.specs.Tables.{x_of}
use Rattle.tables.specs.Tables.{Empty}
use Rattle.timetable.specs.OfSheet.{Fits, unplaced}
use Rattle.timetable.proofs.Points.{sum-change}
use Rattle.timetable.proofs.Clash.{clash-is, clashing-kept}

unfoldable pub placed_to : List ℕ → ℕ → List ℕ
placed_to sheet zero = replicate (length sheet) 0
placed_to sheet (suc g) = set (placed_to sheet g) g (get_or sheet g 0)

pub none-at : (n q : ℕ) → get_or {A = ℕ} (replicate n 0) q 0 ≡ 0
none-at n q = grind (arith, common_steps)

none-in-row : (m n i j : ℕ) → get_or {A = ℕ} (get_or (replicate m (replicate {A = ℕ} n 0)) i []) j 0 ≡ 0
none-in-row m n i j = grind (arith, common_steps)

none-bit-at : (n : ℕ) (l : List ℕ) (q k : ℕ) → l ≡ replicate n 0 → bit (get_or l q 0) k ≡ 0
none-bit-at n l q k e = ap (λ (z : List ℕ). bit (get_or z q 0) k) e ∙ ap (λ (w : ℕ). bit w k) (none-at n q) ∙ bit_at-zero k

module _ (sheet : List ℕ) where
  placed-length : (g : ℕ) → length (placed_to sheet g) ≡ length sheet
  unfolding placed_to
  placed-length zero = length-replicate (length sheet) 0
  placed-length (suc g) = length-set (placed_to sheet g) g (get_or sheet g 0) ∙ placed-length g

  -- the games from g on
  pub later : (g h : ℕ) → g ≤ h → get_or (placed_to sheet g) h 0 ≡ 0
  unfolding placed_to
  later zero h l = none-at (length sheet) h
  later (suc g) h l = grind (arith, common_steps, l, later g h (omega arith))

  -- .. and those before
  earlier : (g h : ℕ) → g ≤ length sheet → h < g → get_or (placed_to sheet g) h 0 ≡ get_or sheet h 0
  unfolding placed_to
  earlier zero h low l = absurd (omega arith)
  earlier (suc g) h low l = grind (arith, common_steps, placed-length g, low, l, earlier g h (omega arith))

  pub all_placed : placed_to sheet (length sheet) ≡ sheet
  all_placed =
      ext_get_or 0 (placed_to sheet (length sheet)) sheet (placed-length (length sheet))
      (λ h l. earlier (length sheet) h (omega arith) (omega (arith, placed-length (length sheet))))

  -- a clash of the first games is one of the sheet
  pub clash-of-first : (homes aways : List ℕ) (g : ℕ) → g ≤ length sheet → clash homes aways (placed_to sheet g) ≡ true
      → clash homes aways sheet ≡ true
  clash-of-first homes aways g low e =
      let c = clash-is homes aways (placed_to sheet g) e in
      clashing-kept homes aways (placed_to sheet g) sheet c (keeps c.g) (keeps c.h)
    where
      keeps : (h k : ℕ) → get_or (placed_to sheet g) h 0 ≡ suc k → get_or sheet h 0 ≡ suc k
      keeps h k s = grind (arith, s, earlier g h low, later g h)

module _ (n : ℕ) (homes aways sheet : List ℕ) where
  -- before the first turn
  pub fits-none : (t : Tables) → Empty t → Fits n true t homes aways (placed_to sheet 0)
  unfolding meetings is_at
  fits-none t empty = record {
    no-clash = sym (ap not (false_from_ne_true _ (λ e.
        let c = clash-is homes aways (placed_to sheet 0) e in omega (arith, later sheet 0 c.g (omega arith), c.first.slot))));
    shows = λ e. record {
      tied = record {
        sized = record {
          home-length = ap length empty.home-is ∙ length-replicate {A = ℕ} most_teams 0;
          away-length = ap length empty.away-is ∙ length-replicate {A = ℕ} most_teams 0;
          meets-length = ap length empty.meets-is ∙ length-replicate {A = List ℕ} most_teams (replicate {A = ℕ} most_teams 0);
          row-length = λ i l.
              rw (empty.meets-is, get_or-replicate {A = List ℕ} most_teams i (replicate {A = ℕ} most_teams 0) [] l)
              (length-replicate {A = ℕ} most_teams 0);
        };
        home-row = λ i k li lk. at_home i k ∙ sym (sum-zero n (λ j lj. no-meeting i j k));
        away-row = λ j k lj lk. at-away j k ∙ sym (sum-zero n (λ i li. no-meeting i j k));
        once = λ i k li lk. omega (arith, at_home i k, at-away i k);
      };
      x = λ i j k li lj lk. no-meeting i j k ∙ sym (none-met i j k);
    };
  }
    where
      at_home : (i k : ℕ) → bit (get_or t.home i 0) k ≡ 0
      at_home i k = none-bit-at most_teams t.home i k empty.home-is

      at-away : (j k : ℕ) → bit (get_or t.away j 0) k ≡ 0
      at-away j k = none-bit-at most_teams t.away j k empty.away-is

      no-meeting : (i j k : ℕ) → x_of t.meets i j k ≡ 0
      no-meeting i j k = rw (empty.meets-is, none-in-row most_teams most_teams i j) (bit_at-zero k)

      none-met : (i j k : ℕ) → meetings homes aways (placed_to sheet 0) i j k ≡ 0
      none-met i j k = sum-zero (length homes) (λ g lg. rw (later sheet 0 g (omega arith), eqb-zero-suc k, and-false))

-- how many of the first games have no slot
module _ (sheet : List ℕ) where
  pub unplaced-next : (g : ℕ) {u v : ℕ}
      → u ≡ unplaced sheet g
      → v ≡ only (eqb (get_or sheet g 0) 0) 1
      → u + v ≡ unplaced sheet (g + 1)
  unplaced-next g p q = rw (sum_step, ← p, ← q)

  pub unplaced-low : (g : ℕ) → unplaced sheet g ≤ g
  unplaced-low g = omega (arith, sum_bound {f = λ h. only (eqb (get_or sheet h 0) 0) 1} g 1 (λ h l. only-le (eqb (get_or sheet h 0) 0) 1))

  -- .. after game g has got the slot of byte b
  pub unplaced-set : (g b G : ℕ)
      → g < G
      → g < length sheet
      → unplaced (set sheet g b) G + only (eqb (get_or sheet g 0) 0) 1 ≡ unplaced sheet G + only (eqb b 0) 1
  unplaced-set g b G low fits =
      sum-change
      {f = λ h. only (eqb (get_or sheet h 0) 0) 1}
      {h = λ h. only (eqb (get_or (set sheet g b) h 0) 0) 1}
      G
      g
      low
      (λ h l e. rw (get_or-set_other sheet g h b 0 e))
      ∙ rw (get_or-set_same sheet g b 0 fits)
