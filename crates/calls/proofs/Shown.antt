-- What the tables of a sheet give: figures worked out from them are the figures of the sheet.
use mathlib.Core.Path.{◌≡◌, refl, sym, ◌∙◌}
use mathlib.Core.List.{List}
use mathlib.Core.Bool.{true, cond}
use Prim.Native.Nat.{ℕ, ◌+◌}
use native.Mathlib.Omega.{arith}
use lib.Dec.{eqb, ltb}
use lib.ListN.{length, get_or}
use Rattle.robinx.specs.Season.{Instance, decode, most_teams}
use Rattle.robinx.specs.Books.{timetable, deviations_at, all_entries, verdict}
use Rattle.robinx.proofs.Sums.{any-is-sum}
use Rattle.robinx.proofs.Agree.{agreement}
use Rattle.robinx.proofs.Passed.{Passed}
use Rattle.robinx.proofs.Accepted.{low}
use Rattle.robinx.proofs.Limits.{Sound, sound, decode-home, decode-away}
use Rattle.robinx.proofs.Demand3.{lengths}
use Rattle.tables.specs.declared.Tables.{Tables}
use Rattle.tables.specs.Tables.{x_of, Tied}
use Rattle.timetable.specs.OfSheet.{Shows, InRange, Fits, unplaced}
use Rattle.timetable.proofs.Fewer.{shows-for}
use Rattle.admission.proofs.Teams.{season-teams}

module _ (s sheet : List ℕ) (L T : ℕ) (p : Passed s sheet L T) where
  abbrev m : Instance
  m = decode s

  pub is-sound : Sound m
  is-sound = sound m p.s2 p.s4 p.s5

  pub whole : (length sheet ≡ m.G) × (L ≡ all_entries m) × (T ≡ m.C + 2)
  whole = lengths m (length sheet) L T p.s7

  pub range : InRange m.n m.home m.away sheet
  range =
      let h = decode-home s p.s3 in
      record {
        teams = season-teams is-sound h (decode-away s p.s3) (omega arith) is-sound.teams;
        sheet-length = whole.0 ∙ sym h;
        slot-low = λ g l. omega (arith, low m sheet whole.0 p.s8 g (rw h at l), is-sound.slots);
      }

  module _ {t : Tables} (fits : Fits most_teams true t m.home m.away sheet) where
    shown : Shows m.n t m.home m.away sheet
    shown = shows-for m.n m.home m.away sheet range (fits.shows refl)

    pub tied : Tied m.n t
    tied = shown.tied

    -- every constraint has the same deviations by the tables and by the sheet
    pub same-deviations : deviations_at m (x_of t.meets) ≡ deviations_at m (timetable m sheet)
    same-deviations = λ i c. each c i
      where
        each : (c : ℕ) → deviations_at m (x_of t.meets) c ≡ deviations_at m (timetable m sheet) c
        each c =
            agreement m.n m.P (x_of t.meets) (timetable m sheet) (m.constraint c)
            (λ i j k li lj lk r. shown.x i j k li lj (omega (arith, is-sound.slots)))

-- the verdict by a count of the unplaced games
pub verdict-is : (m : Instance) (sheet : List ℕ) (u T : ℕ) → u ≡ unplaced sheet m.G
    → ◌≡◌ {A = ℕ} (cond (ltb 0 u) 1 (cond (ltb 0 T) 2 0)) (verdict m sheet T)
unfolding verdict
verdict-is m sheet u T e = rw (e, any-is-sum (λ g. eqb (get_or sheet g 0) 0) m.G)
