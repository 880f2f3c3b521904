-- The tables with one game more and with one game less: rows and meetings stay tied. Assumes nothing.
use mathlib.Core.Path.{◌≡◌, refl, ap, ◌∙◌}
use mathlib.Core.List.{List}
use mathlib.Core.Bool.{Bool, true, false, ◌&&◌, and_assoc}
use Prim.Native.Nat.{ℕ, ◌+◌, ◌<◌}
use native.Mathlib.Omega.{arith}
use lib.Dec.{eqb}
use lib.ListN.{length, get_or, set}
use Rattle.std.proofs.lemmas.Bool.Decides.{nat_tests}
use Rattle.std.proofs.lemmas.Grind.{common_steps}
use Rattle.robinx.specs.Sums.{sum_to, only}
use Rattle.robinx.specs.Groups.{bit}
use Rattle.robinx.specs.Timetable.{X, meetings}
use Rattle.robinx.proofs.Sums.{sum-add, sum-zero}
use Rattle.robinx.proofs.Ext.{sum-ext}
use Rattle.tables.specs.declared.Tables.{Tables}
use Rattle.tables.specs.Tables.{hosted_by, x_of, Sized, Tied}
use Rattle.timetable.specs.OfSheet.{Shows}
use Rattle.timetable.proofs.Points.{Gains, sum-point}

-- x' is x with one more meeting of i and j at i's venue in slot k
abbrev pub MeetsMore : ℕ → ℕ → ℕ → ℕ → X → X → Type 0
MeetsMore n i j k x x' =
    (p q a : ℕ) → p < n → q < n → x' p q a ≡ x p q a + only (eqb i p && eqb j q && eqb k a) 1

-- a table of meetings with another row of i
module _ (n i j k : ℕ) (meets : List (List ℕ)) (low : i < length meets) where
  pub row-gains : (r : List ℕ) → Gains j k (hosted_by meets i) r → MeetsMore n i j k (x_of meets) (x_of (set meets i r))
  row-gains r more p q a lp lq = grind (arith, common_steps, low, more q a)

  pub row-loses : (r : List ℕ) → Gains j k r (hosted_by meets i) → MeetsMore n i j k (x_of (set meets i r)) (x_of meets)
  row-loses r more p q a lp lq = grind (arith, common_steps, low, more q a)

-- the sums of a row and of a column
module _ (n i j k : ℕ) (x x' : X) (li : i < n) (lj : j < n) (more : MeetsMore n i j k x x') (t a : ℕ) (lt : t < n) where
  pub row_more : sum_to (λ q. x' t q a) n ≡ sum_to (λ q. x t q a) n + only (eqb i t && eqb k a) 1
  row_more =
      sum-ext n (λ q lq. more t q a lt lq)
      ∙ sum-add (λ q. x t q a) (λ q. only (eqb i t && eqb j q && eqb k a) 1) n
      ∙ ap (λ (v : ℕ). sum_to (λ q. x t q a) n + v) (go (eqb i t))
    where
      go : (b : Bool) → sum_to (λ q. only (b && eqb j q && eqb k a) 1) n ≡ only (b && eqb k a) 1
      go true = sum-point n j (eqb k a) lj
      go false = sum-zero n (λ q lq. refl)

  pub column-more : sum_to (λ p. x' p t a) n ≡ sum_to (λ p. x p t a) n + only (eqb j t && eqb k a) 1
  column-more =
      sum-ext n (λ p lp. more p t a lp lt ∙ ap (λ (b : Bool). x p t a + only b 1) (and_assoc (eqb i p) (eqb j t) (eqb k a)))
      ∙ sum-add (λ p. x p t a) (λ p. only (eqb i p && (eqb j t && eqb k a)) 1) n
      ∙ ap (λ (v : ℕ). sum_to (λ p. x p t a) n + v) (sum-point n i (eqb j t && eqb k a) li)

-- team i has no game in slot k
abbrev pub Free : Tables → ℕ → ℕ → Type 0
Free t i k = bit (get_or t.home i 0) k + bit (get_or t.away i 0) k ≡ 0

-- t are the tables without a game of i at home against j in slot k, t' those with it.
module _ (n i j k : ℕ) (t t' : Tables) (li : i < n) (lj : j < n)
    (home-gains : Gains i k t.home t'.home) (away-gains : Gains j k t.away t'.away)
    (x-more : MeetsMore n i j k (x_of t.meets) (x_of t'.meets)) where
  -- rows grow as their sums do
  home-row-more : (p b : ℕ) → p < n
      → bit (get_or t'.home p 0) b + sum_to (λ q. x_of t.meets p q b) n ≡ bit (get_or t.home p 0) b + sum_to (λ q. x_of t'.meets p q b) n
  home-row-more p b lp = omega (arith, home-gains p b, row_more n i j k (x_of t.meets) (x_of t'.meets) li lj x-more p b lp)

  away-row-more : (q b : ℕ) → q < n
      → bit (get_or t'.away q 0) b + sum_to (λ p. x_of t.meets p q b) n ≡ bit (get_or t.away q 0) b + sum_to (λ p. x_of t'.meets p q b) n
  away-row-more q b lq = omega (arith, away-gains q b, column-more n i j k (x_of t.meets) (x_of t'.meets) li lj x-more q b lq)

  tied-more : Sized t' → (i ≡ j → ⊥) → Free t i k → Free t j k → Tied n t → Tied n t'
  tied-more sized differ free-i free-j tied = record {
    sized = sized;
    home-row = λ p b lp lb. omega (arith, home-row-more p b lp, tied.home-row p b lp lb);
    away-row = λ q b lq lb. omega (arith, away-row-more q b lq, tied.away-row q b lq lb);
    once = λ p b lp lb.
        grind (arith, nat_tests, home-gains p b, away-gains p b, tied.once p b lp lb, differ, free-i, free-j);
  }

  tied-less : Sized t → Tied n t' → Tied n t
  tied-less sized tied = record {
    sized = sized;
    home-row = λ p b lp lb. omega (arith, home-row-more p b lp, tied.home-row p b lp lb);
    away-row = λ q b lq lb. omega (arith, away-row-more q b lq, tied.away-row q b lq lb);
    once = λ p b lp lb. omega (arith, home-gains p b, away-gains p b, tied.once p b lp lb);
  }

  -- the same with the sheets that the tables are of
  module _ (homes aways sheet sheet' : List ℕ)
      (more : MeetsMore n i j k (meetings homes aways sheet) (meetings homes aways sheet')) where
    pub shows_more : Sized t' → (i ≡ j → ⊥) → Free t i k → Free t j k → Shows n t homes aways sheet → Shows n t' homes aways sheet'
    shows_more sized differ free-i free-j shows = record {
      tied = tied-more sized differ free-i free-j shows.tied;
      x = λ p q b lp lq lb. omega (arith, x-more p q b lp lq, shows.x p q b lp lq lb, more p q b lp lq);
    }

    pub shows-less : Sized t → Shows n t' homes aways sheet' → Shows n t homes aways sheet
    shows-less sized shows = record {
      tied = tied-less sized shows.tied;
      x = λ p q b lp lq lb. omega (arith, x-more p q b lp lq, shows.x p q b lp lq lb, more p q b lp lq);
    }
