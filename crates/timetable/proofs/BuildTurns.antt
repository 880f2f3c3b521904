-- The turns of build, and the three ways in which it ends. Assumes nothing.
use mathlib.Core.Path.{◌≡◌, refl, sym, ap, ◌∙◌}
use mathlib.Core.List.{List}
use mathlib.Core.Bool.{Bool, true, false, ◌||◌, or-true}
use Prim.Native.Nat.{ℕ, suc, ◌+◌, ◌<◌, ◌≤◌}
use native.Mathlib.Omega.{arith}
use native.Mathlib.Numerals.{add-one}
use lib.Dec.{eqb, ltb}
use lib.ListN.{length, get_or, length-replicate}
use borrow.Author.Tests.{lt-ltb, le-ltb, not-true, not-false}
use Rattle.robinx.specs.Sums.{sum_to, any_to, only}
use Rattle.robinx.specs.Season.{most_teams, most_slots}
use Rattle.robinx.specs.Timetable.{clash}
use Rattle.robinx.specs.Refusals.{first_true}
use Rattle.robinx.specs.declared.Refusal.TheVariants.{BadSheet}
use Rattle.robinx.proofs.Sums.{any_some, any_step}
use Rattle.tables.specs.declared.Tables.{Tables}
use Rattle.tables.specs.Tables.{Tried}
use Rattle.tables.specs.Tables.{Empty}
use Rattle.timetable.specs.OfSheet.{Teams, InRange, Fits, unplaced, above, Builds}
use Rattle.std.specs.Prelude.{Ok, Err}
use Rattle.timetable.proofs.Laws.{in-range-set}
use Rattle.timetable.proofs.TableSteps.{fits-tried}
use Rattle.timetable.proofs.FirstGames.{placed_to, none-at, later, all_placed, clash-of-first, fits-none, unplaced-next}

-- Before turn g the first g games fit and are in the tables, and those of them that have no slot are counted.
pub record Begun (p : ℕ) (homes aways sheet : List ℕ) (g : ℕ) (t : Tables) (u : ℕ) : Type 0 where
  pub low : g ≤ length homes
  pub none_above : any_to (λ h. ltb p (get_or sheet h 0)) g ≡ false
  pub range : InRange most_teams homes aways (placed_to sheet g)
  pub fits : Fits most_teams true t homes aways (placed_to sheet g)
  pub count : u ≡ unplaced sheet g

module _ {p : ℕ} {homes aways sheet : List ℕ} (sized : length sheet ≡ length homes) where
  pub none_yet : {t : Tables} → Teams most_teams homes aways → Empty t → Begun p homes aways sheet 0 t 0
  unfolding any_to sum_to placed_to
  none_yet teams empty = record {
    low = omega arith;
    none_above = refl;
    range = record {
      teams = teams;
      sheet-length = length-replicate (length sheet) 0 ∙ sized;
      slot-low = λ g l. omega (arith, none-at (length sheet) g);
    };
    fits = fits-none most_teams homes aways sheet _ empty;
    count = refl;
  }

  unfit : {t : Tables} → above p sheet || clash homes aways sheet ≡ true → Builds p homes aways sheet (Err BadSheet) t
  unfolding first_true
  unfit bad = record { number = rw bad; shows = tt; count = tt }

  -- it ends at a byte above p
  pub ends_above : (g : ℕ) {t : Tables} → g < length homes → p < get_or sheet g 0 → Builds p homes aways sheet (Err BadSheet) t
  ends_above g low high =
      unfit (rw (any_some (λ h. ltb p (get_or sheet h 0)) (length sheet) g (omega arith) (lt-ltb p (get_or sheet g 0) high)))

  module _ {g u : ℕ} {t : Tables} (b : Begun p homes aways sheet g t u) where
    -- .. after the last game
    pub ends-whole : g ≡ length homes → Builds p homes aways sheet (Ok u) t
    unfolding first_true
    ends-whole e = record {
      number = rw (none, not-true _ (sym (rw all at b.fits.no-clash)));
      shows = rw all at (b.fits.shows refl);
      count = rw (← e) b.count;
    }
      where
        all : placed_to sheet g ≡ sheet
        all = ap (placed_to sheet) (e ∙ sym sized) ∙ all_placed sheet

        none : above p sheet ≡ false
        none = ap (any_to (λ h. ltb p (get_or sheet h 0))) (sized ∙ sym e) ∙ b.none_above

    module _ (low : g < length homes) (few : p ≤ most_slots) (byte : get_or sheet g 0 ≤ p) {t' : Tables} {r : Bool}
        (tried : Tried r (get_or homes g 0) (get_or aways g 0) (get_or sheet g 0) t t') where
      next_fits : Fits most_teams r t' homes aways (placed_to sheet (suc g))
      unfolding placed_to
      next_fits =
          fits-tried b.range g low r (get_or sheet g 0) (omega arith) (later sheet g g (omega arith)) b.fits tried

      -- .. where a team is busy
      pub ends-busy : r ≡ false → Builds p homes aways sheet (Err BadSheet) t'
      ends-busy e =
          unfit (rw (clash-of-first sheet homes aways (suc g) (omega arith) (not-false _ (sym next_fits.no-clash ∙ e)), or-true))

      pub next-turn : {v : ℕ} → r ≡ true → v ≡ only (eqb (get_or sheet g 0) 0) 1 → Begun p homes aways sheet (g + 1) t' (u + v)
      unfolding placed_to
      next-turn e ev = record {
        low = omega arith;
        none_above = any_step _ g ∙ ap (λ (y : Bool). y || ltb p (get_or sheet g 0)) b.none_above ∙ le-ltb p (get_or sheet g 0) byte;
        range = rw add-one (in-range-set g (get_or sheet g 0) (omega arith) b.range);
        fits = rw add-one (rw e at next_fits);
        count = unplaced-next sheet g b.count ev;
      }
