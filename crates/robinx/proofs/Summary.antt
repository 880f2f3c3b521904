-- The words of a summary, and that it is the sheet's own.
use mathlib.Core.Path.{◌≡◌, refl, sym, ap, ap₂, ◌∙◌}
use mathlib.Core.List.{List, [], append-nil}
use mathlib.Core.Bool.{false}
use Prim.Native.Nat.{ℕ, ◌+◌, ◌<◌}
use lib.ListN.{length, length-append, get_or}
use borrow.Author.Tests.{eq-eqb}
use Rattle.robinx.specs.Sums.{list_to}
use Rattle.robinx.specs.Season.{Instance, most_teams}
use Rattle.robinx.specs.Summary.{summary_words, team_words, summary}
use Rattle.robinx.specs.Refusals.{sentence14_open, disagrees, sentence14}
use Rattle.robinx.proofs.Sums.{none_any}
use Rattle.robinx.proofs.Lengths.{length-list_to, list_at, list-beyond}

-- the words of any two functions of a team
module _ (home away : ℕ → ℕ) where
  pub length-words : length (team_words home away) ≡ summary_words
  length-words = length-append (list_to home most_teams) (list_to away most_teams) ∙ ap₂ ◌+◌ (length-list_to home most_teams) (length-list_to away most_teams)

  pub home-word : (t : ℕ) → t < most_teams → get_or (team_words home away) t 0 ≡ home t
  home-word t l = list_at home most_teams t _ l

  pub away-word : (t : ℕ) → t < most_teams → get_or (team_words home away) (most_teams + t) 0 ≡ away t
  away-word t l =
      list-beyond home most_teams t _
      ∙ ap (λ (s : List ℕ). get_or s t 0) (sym (append-nil (list_to away most_teams)))
      ∙ list_at away most_teams t [] l

pub length-summary : (m : Instance) (sheet : List ℕ) → length (summary m sheet) ≡ summary_words
unfolding summary
length-summary m sheet = length-words _ _

-- the sheet's own summary passes sentence 14
pub own-summary : (m : Instance) (sheet : List ℕ) → sentence14 m sheet (summary m sheet) ≡ false
unfolding sentence14 disagrees sentence14_open
own-summary m sheet = rw (length-summary m sheet) (none_any _ summary_words (λ q l. rw (eq-eqb (get_or (summary m sheet) q 0) (get_or (summary m sheet) q 0) refl)))
