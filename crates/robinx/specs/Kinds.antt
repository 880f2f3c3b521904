-- The twelve kinds of constraint by RobinX's names (FORMAT 3), and a row for each.
use Rattle.std.specs.Prelude.{Bool, true, false, cond, ℕ, eqb}
use Rattle.robinx.specs.declared.Kind.{Kind}
use Rattle.robinx.specs.declared.Kind.TheVariants.{Ca1, Ca2, Ca3, Ca4, Ca5, Ga1, Br1, Br2, Br4, Fa1, Fa2, Se1, Unknown}
use Rattle.robinx.specs.declared.Field.{Field}
use Rattle.robinx.specs.declared.Field.TheVariants.{Zero, Any, UpToKmax, Some}
use Rattle.robinx.specs.declared.Shape.{Shape}
use Rattle.robinx.specs.declared.Shape.TheVariants.{Nothing, One, EachTeam, EachPair, OneOrEachSlot}
use Rattle.robinx.specs.declared.TouchTeams.{TouchTeams}
use Rattle.robinx.specs.declared.TouchTeams.TheVariants.{Nobody, OneInT1, Across, HomeAndAway, BothInT1}
use Rattle.robinx.specs.declared.TouchSlots.{TouchSlots}
use Rattle.robinx.specs.declared.TouchSlots.TheVariants.{InS, UpToLastOfS, AnySlot}
use Rattle.robinx.specs.declared.Asks.{Asks}
use Rattle.robinx.specs.declared.Form.{Form}

unfoldable pub kind_of : ℕ → Kind
kind_of k =
    cond (eqb k 11) Ca1
    (cond (eqb k 12) Ca2
    (cond (eqb k 13) Ca3
    (cond (eqb k 14) Ca4
    (cond (eqb k 15) Ca5
    (cond (eqb k 21) Ga1
    (cond (eqb k 31) Br1
    (cond (eqb k 32) Br2
    (cond (eqb k 34) Br4
    (cond (eqb k 41) Fa1
    (cond (eqb k 42) Fa2
    (cond (eqb k 51) Se1 Unknown)))))))))))

abbrev pub asks : ℕ → ℕ → Bool → Field → Field → Field → Field → Field → ℕ → Bool → Asks
asks first last squares kmin kmax w t2 s fewest several = record {
  first = first;
  last = last;
  squares = squares;
  kmin = kmin;
  kmax = kmax;
  w = w;
  t2 = t2;
  s = s;
  fewest = fewest;
  several = several;
}

abbrev pub form : Shape → TouchTeams → TouchSlots → Form
form shape teams slots = record { shape = shape; teams = teams; slots = slots }

-- All that differs between kinds but the count itself.
pub record Row : Type 0 where
  pub asks : Asks
  pub form : Form

abbrev row : Asks → Shape → TouchTeams → TouchSlots → Row
row asks shape teams slots = record { asks = asks; form = form shape teams slots }

abbrev yes : Bool
yes = true

abbrev no : Bool
no = false

-- A row a kind: first and last mode, whether functions 2 and 3 are allowed; kmin, kmax, w, T2, S; the fewest teams of T1, whether one of T1 and
-- T2 has more than one team; the deviations; the teams and the slots of the changes that touch it (FORMAT 5.4). What is no kind
-- has no mode, so that it breaks the rules, and neither deviations nor changes.
abbrev pub row_of : Kind → Row
row_of Ca1 = row (asks 1 3 yes UpToKmax Any Zero Zero Some 1 no) EachTeam OneInT1 InS
row_of Ca2 = row (asks 1 3 yes UpToKmax Any Zero Some Some 1 yes) EachTeam Across InS
row_of Ca3 = row (asks 1 3 yes UpToKmax Any Some Some Zero 1 no) EachTeam Across AnySlot
row_of Ca4 = row (asks 1 6 yes UpToKmax Any Zero Some Some 2 no) OneOrEachSlot Across InS
row_of Ca5 = row (asks 2 2 yes UpToKmax Any Zero Some Some 1 no) EachTeam OneInT1 AnySlot
row_of Ga1 = row (asks 1 1 yes UpToKmax Any Zero Some Some 1 no) One HomeAndAway InS
row_of Br1 = row (asks 1 6 yes Zero Any Zero Zero Some 1 no) EachTeam OneInT1 UpToLastOfS
row_of Br2 = row (asks 1 6 yes Zero Some Zero Zero Some 2 no) One OneInT1 UpToLastOfS
row_of Br4 = row (asks 2 2 yes Any Zero Zero Zero Some 1 no) EachTeam OneInT1 AnySlot
row_of Fa1 = row (asks 1 1 yes Zero Any Zero Zero Some 1 no) EachTeam BothInT1 UpToLastOfS
row_of Fa2 = row (asks 1 3 yes Zero Any Zero Zero Some 2 no) EachPair BothInT1 UpToLastOfS
row_of Se1 = row (asks 1 1 yes Zero Zero Some Zero Zero 2 no) EachPair BothInT1 AnySlot
row_of Unknown = row (asks 1 0 no Zero Zero Zero Zero Zero 1 no) Nothing Nobody InS

-- what a kind asks, and its form; the same of a kind's number
unfoldable pub asks_of : Kind → Asks
asks_of k = (row_of k).asks

unfoldable pub form_of : Kind → Form
form_of k = (row_of k).form

unfoldable pub asks_at : ℕ → Asks
asks_at kind = asks_of (kind_of kind)

unfoldable pub form_at : ℕ → Form
form_at kind = form_of (kind_of kind)
