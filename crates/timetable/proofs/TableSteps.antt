-- The steps of build, reslot and swap: what the tables and the answer were for one sheet they are for the next. Assumes nothing.
use mathlib.Core.Path.{◌≡◌, refl, sym, ap, ◌∙◌}
use mathlib.Core.List.{List}
use mathlib.Core.Bool.{Bool, true, false, not, true≢false}
use Prim.Native.Nat.{ℕ, zero, suc, ◌<◌, ◌≤◌}
use native.Mathlib.Omega.{arith}
use lib.ListN.{length, get_or, set}
use lib.Seq.{get_or-set_same, set-set, set_comm, set-get_or}
use borrow.Author.Tests.{not-true, not-false}
use Rattle.std.proofs.lemmas.Grind.{common_steps}
use Rattle.robinx.specs.Season.{most_slots}
use Rattle.robinx.specs.Timetable.{clash}
use Rattle.tables.specs.declared.Tables.{Tables}
use Rattle.tables.specs.Tables.{put_into, taken_out_of, free_at, Tried}
use Rattle.timetable.specs.OfSheet.{Shows, InRange, Fits}
use Rattle.timetable.proofs.Laws.{in-range-set, lift-law, place-law, busy-is-clash, clash-lift, clash-stays}

module _ {n : ℕ} {homes aways sheet : List ℕ} (range : InRange n homes aways sheet) (g : ℕ) (low : g < length homes) {t t' : Tables} where
  pub fits-lifted : Fits n true t homes aways sheet
      → t' ≡ taken_out_of (get_or homes g 0) (get_or aways g 0) (get_or sheet g 0) t
      → Fits n true t' homes aways (set sheet g 0)
  fits-lifted fits lifted = record {
    no-clash = sym (ap not (clash-lift homes aways sheet g (omega (arith, range.sheet-length)) (not-true _ (sym fits.no-clash))));
    shows = λ e. rw lifted (go (get_or sheet g 0) refl);
  }
    where
      go : (b : ℕ) → get_or sheet g 0 ≡ b → Shows n (taken_out_of (get_or homes g 0) (get_or aways g 0) b t) homes aways (set sheet g 0)
      go zero e = rw (← e, set-get_or) (fits.shows refl)
      go (suc k) e = lift-law range g low (fits.shows refl) k e

  -- a game that has no slot gets that of byte b
  pub fits-tried : (r : Bool) (b : ℕ) → b ≤ most_slots → get_or sheet g 0 ≡ 0
      → Fits n true t homes aways sheet
      → Tried r (get_or homes g 0) (get_or aways g 0) b t t'
      → Fits n r t' homes aways (set sheet g b)
  fits-tried r b lb lifted fits tried = record {
    no-clash = tried.answer ∙ free-is-fit b lb;
    shows = λ e. rw (tried.after, e) (put-shows b lb (sym tried.answer ∙ e));
  }
    where
      back : set sheet g 0 ≡ sheet
      back = ap (set sheet g) (sym lifted) ∙ set-get_or sheet g 0

      free : ℕ → Bool
      free b = free_at t.home t.away (get_or homes g 0) (get_or aways g 0) b

      free-is-fit : (b : ℕ) → b ≤ most_slots → free b ≡ not (clash homes aways (set sheet g b))
      free-is-fit zero lb = rw back fits.no-clash
      free-is-fit (suc k) lb =
          ap not (busy-is-clash range g low (fits.shows refl) k (omega arith) lifted (not-true _ (sym fits.no-clash)))

      put-shows : (b : ℕ) → b ≤ most_slots → free b ≡ true → Shows n (put_into (get_or homes g 0) (get_or aways g 0) b t) homes aways (set sheet g b)
      put-shows zero lb e = rw back (fits.shows refl)
      put-shows (suc k) lb e = place-law range g low (fits.shows refl) k (omega arith) lifted (not-true _ e)

-- A game lifted and put elsewhere.
module _ {n : ℕ} {homes aways sheet : List ℕ} (range : InRange n homes aways sheet) (g b : ℕ) (low : g < length homes) (lb : b ≤ most_slots)
    {t₀ t₁ t₂ : Tables} {r : Bool} where
  pub fits-reslotted : Fits n true t₀ homes aways sheet
      → t₁ ≡ taken_out_of (get_or homes g 0) (get_or aways g 0) (get_or sheet g 0) t₀
      → Tried r (get_or homes g 0) (get_or aways g 0) b t₁ t₂
      → Fits n r t₂ homes aways (set sheet g b)
  fits-reslotted fits lifted tried =
      rw set-set at
      (fits-tried (in-range-set g 0 (omega arith) range) g low r b lb
      (get_or-set_same sheet g 0 0 (omega (arith, range.sheet-length)))
      (fits-lifted range g low fits lifted)
      tried)

-- Two games lifted, and each put into the other's slot.
swapped : (sheet : List ℕ) (g h a b : ℕ)
    → (g ≡ h → ⊥)
    → set (set (set (set sheet g 0) h 0) g b) h a ≡ set (set sheet g b) h a
swapped sheet g h a b apart =
    ap (λ (l : List ℕ). set l h a) (set_comm (set sheet g 0) h g 0 b (λ e. apart (sym e)))
    ∙ set-set (set (set sheet g 0) g b) h 0 a
    ∙ ap (λ (l : List ℕ). set l h a) (set-set sheet g 0 b)

module _ {n : ℕ} {homes aways sheet : List ℕ} (range : InRange n homes aways sheet) (g h : ℕ) (lg : g < length homes) (lh : h < length homes)
    (apart : g ≡ h → ⊥)
    {t₀ t₁ t₂ t₃ : Tables} {r : Bool}
    (fits : Fits n true t₀ homes aways sheet)
    (out-g : t₁ ≡ taken_out_of (get_or homes g 0) (get_or aways g 0) (get_or sheet g 0) t₀)
    (out-h : t₂ ≡ taken_out_of (get_or homes h 0) (get_or aways h 0) (get_or sheet h 0) t₁)
    (in-g : Tried r (get_or homes g 0) (get_or aways g 0) (get_or sheet h 0) t₂ t₃) where
  range-1 : InRange n homes aways (set sheet g 0)
  range-1 = in-range-set g 0 (omega arith) range

  range-2 : InRange n homes aways (set (set sheet g 0) h 0)
  range-2 = in-range-set h 0 (omega arith) range-1

  range-3 : InRange n homes aways (set (set (set sheet g 0) h 0) g (get_or sheet h 0))
  range-3 = in-range-set g (get_or sheet h 0) (range.slot-low h lh) range-2

  still : get_or (set sheet g 0) h 0 ≡ get_or sheet h 0
  still = grind (arith, common_steps, apart)

  free-g : get_or (set (set sheet g 0) h 0) g 0 ≡ 0
  free-g = grind (arith, common_steps, apart, lg, range.sheet-length)

  free-h : get_or (set (set (set sheet g 0) h 0) g (get_or sheet h 0)) h 0 ≡ 0
  free-h = grind (arith, common_steps, apart, lh, range.sheet-length)

  -- the first game is put
  first-put : Fits n r t₃ homes aways (set (set (set sheet g 0) h 0) g (get_or sheet h 0))
  first-put =
      fits-tried range-2 g lg r (get_or sheet h 0) (range.slot-low h lh) free-g
      (fits-lifted range-1 h lh (fits-lifted range g lg fits out-g) (rw still out-h))
      in-g

  -- where it clashes, so does the sheet
  pub swap-ends : {t : Tables} → r ≡ false → Fits n false t homes aways (set (set sheet g (get_or sheet h 0)) h (get_or sheet g 0))
  swap-ends e =
      rw (← swapped sheet g h (get_or sheet g 0) (get_or sheet h 0) apart)
      (record {
        no-clash = sym (ap not (clash-stays homes aways _ h (get_or sheet g 0) free-h (not-false _ (sym first-put.no-clash ∙ e))));
        shows = λ z. absurd (true≢false (sym z));
      })

  -- .. and else the second game decides
  pub swap-fits : {s : Bool} {t₄ : Tables} → r ≡ true
      → Tried s (get_or homes h 0) (get_or aways h 0) (get_or sheet g 0) t₃ t₄
      → Fits n s t₄ homes aways (set (set sheet g (get_or sheet h 0)) h (get_or sheet g 0))
  swap-fits {s} e in-h =
      rw (← swapped sheet g h (get_or sheet g 0) (get_or sheet h 0) apart)
      (fits-tried range-3 h lh s (get_or sheet g 0) (range.slot-low g lg) free-h (rw e at first-put) in-h)
