-- Sentence 6 after the first five.
use mathlib.Core.Path.{◌≡◌, sym, ◌∙◌}
use mathlib.Core.List.{List, [], ◌∷◌}
use Prim.Native.Nat.{ℕ, ◌≤◌, ◌<◌}
use native.Mathlib.Omega.{arith}
use lib.ListN.{length}
use Rattle.std.proofs.Common.{Result, Ok, Err}
use borrow.Author.Tests.{lt-ltb, le-ltb, ltb-false}
use Rattle.robinx.specs.Season.{decode, most_constraints, most_deviations}
use Rattle.robinx.specs.Books.{all_entries}
use Rattle.robinx.specs.Refusals.{Sentence, sentence, first_true, of_season, sentence1, sentence6}
use Rattle.robinx.specs.declared.Refusal.{Refusal}
use Rattle.robinx.specs.declared.Refusal.TheVariants.{TooManyDeviations}
use Rattle.robinx.specs.declared.Season.{Season}
use Rattle.robinx.proofs.Passed.{Clear, none_true}
use Rattle.reader.specs.Sizes.{sizes_of}
use Rattle.reader.proofs.Read.{constraints-read}
use Rattle.season.proofs.Found.{no-fault, sizes-found, refused-first, passed-on}
use Rattle.season.specs.declared.Examined.{Examined}
use Rattle.season.specs.Examination.{Examination}
use Rattle.report_reply.specs.ReportReply.{up_to_six}

-- an examination by sentences 1 to 6
abbrev pub UpToSix : List ℕ → Result Examined Refusal → Type 0
UpToSix s r = Examination (up_to_six s) s r

abbrev sixth : List ℕ → List Sentence
sixth s = sentence 6 (sentence6 (decode s)) ∷ []

-- a season without a fault has its sizes, and few constraints
module _ (s : List ℕ) (none : first_true (of_season s) ≡ 0) where
  pub has-sizes : 6 ≤ length s
  unfolding sentence1
  has-sizes = ltb-false (length s) 6 (none_true (of_season s) none).0

  pub few_words : {z : Season} → z ≡ sizes_of s → z.constraints ≤ most_constraints
  few_words e = omega (arith, constraints-read s e, (no-fault s none).sound.constraints)

module _ (s : List ℕ) {e : Examined} (x : Examination (of_season s) s (Ok e)) where
  pub too_many : most_deviations < e.entries → UpToSix s (Err TooManyDeviations)
  unfolding first_true sentence6
  too_many h = record {
    fault = sym (passed-on s (sixth s) x ∙ rw (lt-ltb most_deviations (all_entries (decode s)) (omega (arith, h, x.found.entries))));
    found = tt;
  }

  pub not-too-many : e.entries ≤ most_deviations → UpToSix s (Ok e)
  unfolding first_true sentence6
  not-too-many h = record {
    fault = sym (passed-on s (sixth s) x ∙ rw (le-ltb most_deviations (all_entries (decode s)) (omega (arith, h, x.found.entries))));
    found = x.found;
  }

  pub few-constraints : e.season.sizes.constraints ≤ most_constraints
  few-constraints = few_words s (sym x.fault) (sizes-found x.found)

pub one-of-five : (s : List ℕ) {r : Refusal} → Examination (of_season s) s (Err r) → UpToSix s (Err r)
one-of-five s x = record { fault = sym (refused-first s (sixth s) x); found = tt }

-- none of the six is true
module _ {s : List ℕ} {e : Examined} (x : UpToSix s (Ok e)) where
  pub clear : Clear (up_to_six s)
  clear = none_true (up_to_six s) (sym x.fault)
