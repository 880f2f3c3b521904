-- What the tests of an admission tell, in their order: each refusal has the number of the first true sentence, and a call that
-- passes them all has the tables of its sheet.
use Rattle.std.proofs.lemmas.Bool.{or_parts, and_parts}
use mathlib.Core.Path.{◌≡◌, sym, ap, ◌∙◌}
use mathlib.Core.List.{List, [], ◌∷◌}
use mathlib.Core.Bool.{Bool, false, ◌&&◌, ◌||◌, not}
use Prim.Native.Nat.{ℕ, ◌+◌, ◌≤◌}
use native.Mathlib.Omega.{arith}
use lib.Dec.{eqb}
use lib.ListN.{length}
use borrow.Author.Tests.{eqb-true, not-false}
use Rattle.robinx.specs.Season.{decode, most_teams, most_slots, most_constraints}
use Rattle.robinx.specs.Timetable.{clash}
use Rattle.robinx.specs.Refusals.{Sentence, sentence, first_true, of_season, of_sheet, sentence7, sentence8}
use Rattle.robinx.specs.Calls.{Buffers, open_fault}
use Rattle.robinx.specs.declared.Season.{Season}
use Rattle.robinx.proofs.Passed.{none_true, first-of-both, stays}
use Rattle.reader.specs.Sizes.{sizes_of}
use Rattle.season.specs.Examination.{Examination}
use Rattle.season.specs.declared.Examined.{Examined}
use Rattle.robinx.specs.RefusalNumbers.{number_of}
use Rattle.robinx.specs.declared.Refusal.{Refusal}
use Rattle.std.specs.Prelude.{Ok, Err}
use Rattle.reader.proofs.Read.{slots_read, games-read, constraints-read}
use Rattle.season.proofs.Found.{SoundSeason, accepted, sizes-found, refused-first, passed-on}
use Rattle.tables.specs.declared.Tables.{Tables}
use Rattle.timetable.specs.OfSheet.{Teams, above, Builds}
use Rattle.admission.specs.Admission.{Admits}
use Rattle.admission.proofs.Teams.{season-teams}
use Rattle.admission.specs.declared.Admitted.{Admitted}

-- a refusal says nothing of the tables
refusal : {s : List ℕ} {b : Buffers} {t : Tables} (e : Refusal) → open_fault s b ≡ number_of e → Admits s b (Err e) t
refusal e h = record { number = sym h; found = tt }

-- sentences 7 and 8
abbrev of_rest : List ℕ → Buffers → List Sentence
of_rest s b = of_sheet (decode s) b.sheet (length b.ledger) (length b.tally)

-- a fault of the season comes first
pub season-refused : (s : List ℕ) (b : Buffers) {e : Refusal} {t : Tables} → Examination (of_season s) s (Err e) → Admits s b (Err e) t
unfolding open_fault
season-refused s b {e} x = refusal e (refused-first s (of_rest s b) x)

module _ (s : List ℕ) (b : Buffers) {r : Examined} (x : Examination (of_season s) s (Ok r)) where
  sound-season : SoundSeason s
  sound-season = accepted x

  rest : open_fault s b ≡ first_true (of_rest s b)
  unfolding open_fault
  rest = passed-on s (of_rest s b) x

  abbrev z : Season
  z = r.season.sizes

  e : z ≡ sizes_of s
  e = sizes-found x.found

  pub few-constraints : z.constraints ≤ most_constraints
  few-constraints = omega (arith, constraints-read s e, sound-season.sound.constraints)

  -- sentence 7, by what was read
  abbrev pub misfit : Bool
  misfit = not (eqb (length b.sheet) z.games && eqb (length b.ledger) r.entries && eqb (length b.tally) (z.constraints + 2))

  seven : sentence7 (decode s) (length b.sheet) (length b.ledger) (length b.tally) ≡ misfit
  unfolding sentence7
  seven = rw (x.found.entries, ← games-read s e, ← constraints-read s e)

  abbrev seventh : List Sentence
  seventh = sentence 7 misfit ∷ []

  pub lengths-refused : {e : Refusal} {t : Tables} → number_of e ≡ first_true seventh → Admits s b (Err e) t
  lengths-refused {e} h =
      let eighth = sentence 8 (sentence8 (decode s) b.sheet) ∷ [] in
      refusal e (rest ∙ rw (seven, ← stays e (first_true eighth), h) (first-of-both seventh eighth tt))

  module _ (passed : 0 ≡ first_true seventh) where
    fit : misfit ≡ false
    fit = (none_true seventh (sym passed)).0

    whole : length b.sheet ≡ (decode s).G
    whole =
        let p = and_parts (eqb (length b.sheet) z.games && eqb (length b.ledger) r.entries) (eqb (length b.tally) (z.constraints + 2)) (not-false _ fit) in
        let q = and_parts (eqb (length b.sheet) z.games) (eqb (length b.ledger) r.entries) p.0 in
        eqb-true _ _ q.0 ∙ games-read s e

    -- sentence 8, by what was read
    abbrev collides : Bool
    collides = clash (decode s).home (decode s).away b.sheet

    abbrev bad : Bool
    bad = above z.slots b.sheet || collides

    eight : sentence8 (decode s) b.sheet ≡ bad
    unfolding sentence8
    eight = rw (slots_read s e, whole)

    -- what the build of the tables asks for
    pub buildable : Teams most_teams (decode s).home (decode s).away × (length b.sheet ≡ length (decode s).home) × (z.slots ≤ most_slots)
    buildable =
        let ok = sound-season.sound in (
          season-teams ok sound-season.homes sound-season.aways ok.teams (omega arith),
          whole ∙ sym sound-season.homes,
          omega (arith, ok.slots, slots_read s e),
        )

    -- .. and what it tells
    module _ {t : Tables} where
      pub sheet-refused : {n : Refusal} → Builds z.slots (decode s).home (decode s).away b.sheet (Err n) t → Admits s b (Err n) t
      unfolding first_true
      sheet-refused {n} w = refusal n (rest ∙ rw (seven, fit, eight) (sym w.number))

      pub admitted : {a : Admitted} → a.season.bytes.now ≡ s → Builds z.slots (decode s).home (decode s).away b.sheet (Ok a.unplaced) t
          → Admits s b (Ok a) t
      unfolding first_true
      admitted here w =
          let good = (none_true (sentence 8 bad ∷ []) (sym w.number)).0 in
          let passed : open_fault s b ≡ 0 = rest ∙ rw (seven, fit, eight, good) in
          record {
            number = sym passed;
            found = record {
              same = here;
              ready = record {
                passed = passed;
                tables = record { no-clash = sym (ap not (or_parts (above z.slots b.sheet) collides good).1); shows = λ _. w.shows };
                count = rw (← sound-season.homes) w.count;
              };
            };
          }
