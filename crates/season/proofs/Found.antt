-- The first true sentence by the tests before it, and what holds where none is true.
use mathlib.Core.Path.{◌≡◌, sym, ◌∙◌}
use mathlib.Core.List.{List, ◌++◌}
use mathlib.Core.Bool.{false}
use Prim.Native.Nat.{ℕ}
use lib.ListN.{length}
use borrow.Author.Tests.{eqb-true, not-false}
use Rattle.robinx.specs.Season.{decode, season_length}
use Rattle.std.proofs.Common.{Ok, Err}
use Rattle.robinx.specs.Refusals.{Sentence, sentence3, first_true, of_season}
use Rattle.robinx.specs.RefusalNumbers.{number_of}
use Rattle.robinx.specs.declared.Refusal.{Refusal}
use Rattle.robinx.specs.declared.Season.{Season}
use Rattle.robinx.proofs.Limits.{Sound, sound, decode-home, decode-away}
use Rattle.robinx.proofs.Passed.{none_true, first-of-both, stays}
use Rattle.season.specs.declared.Examined.{Examined}
use Rattle.season.specs.Examination.{Found, Examination}
use Rattle.reader.specs.Sizes.{sizes_of, Measured}
use Rattle.reader.proofs.Read.{length-asked, sizes-tested, in-range, right-length, as_many, teams-read}
use Rattle.games.proofs.Meetings.{games-alone}

pub measured : (s : List ℕ) {z : Season} → z ≡ sizes_of s → sentence3 s ≡ false → Measured s z
unfolding sentence3
measured s e h = record { sizes = e; whole = eqb-true (length s) (season_length s) (not-false _ h) ∙ length-asked s e }

pub ruleset examined = (measured, sizes-tested, length-asked, in-range, right-length, as_many, teams-read, games-alone)

-- What an accepted season gives its callers; `Sound` has the ranges of sizes, teams and constraints.
pub record SoundSeason (s : List ℕ) : Type 0 where
  pub sound : Sound (decode s)
  pub homes : length (decode s).home ≡ (decode s).G
  pub aways : length (decode s).away ≡ (decode s).G
  pub measured : {z : Season} → z ≡ sizes_of s → Measured s z

pub no-fault : (s : List ℕ) → first_true (of_season s) ≡ 0 → SoundSeason s
no-fault s h =
    let c = none_true (of_season s) h in
    record {
      sound = sound (decode s) c.1.0 c.1.1.1.0 c.1.1.1.1.0;
      homes = decode-home s c.1.1.0;
      aways = decode-away s c.1.1.0;
      measured = λ e. measured s e c.1.1.0;
    }

-- What an examination tells of the season's sentences with others behind them.
module _ (s : List ℕ) (l : List Sentence) where
  pub refused-first : {r : Refusal} → Examination (of_season s) s (Err r) → first_true (of_season s ++ l) ≡ number_of r
  refused-first {r} x = first-of-both (of_season s) l tt ∙ rw (← x.fault) (stays r (first_true l))

  pub passed-on : {e : Examined} → Examination (of_season s) s (Ok e) → first_true (of_season s ++ l) ≡ first_true l
  passed-on x = first-of-both (of_season s) l tt ∙ rw (← x.fault)

-- the sizes that were found are the season's
pub sizes-found : {s : List ℕ} {e : Examined} → Found s e → e.season.sizes ≡ sizes_of s
sizes-found {e = e} x = rw x.same at e.season.measured.sizes

pub accepted : {s : List ℕ} {e : Examined} → Examination (of_season s) s (Ok e) → SoundSeason s
accepted {s} x = no-fault s (sym x.fault)
