-- The sizes that were read are those of the decoded season; sentences 2 and 3 by what was read.
use mathlib.Core.Path.{◌≡◌, sym, ap, ◌∙◌}
use mathlib.Core.List.{List}
use mathlib.Core.Bool.{false, not}
use Prim.Native.Nat.{ℕ, ◌+◌, ◌*◌, ◌-◌, ◌≤◌}
use lib.ListN.{length, take, drop, get_or}
use native.Mathlib.Omega.{arith}
use Rattle.std.specs.Prelude.{slice_index}
use Rattle.std.proofs.Common.{take_all, length-drop}
use Rattle.std.proofs.lemmas.List.{get_or-drop}
use borrow.Author.Tests.{eq-eqb}
use Rattle.robinx.specs.Season.{decode, season_length, home_teams, away_teams, most_teams, most_slots, most_games, most_constraints}
use Rattle.robinx.specs.Refusals.{sentence2, sentence3}
use Rattle.robinx.specs.declared.Season.{Season}
use Rattle.robinx.proofs.Limits.{sizes-in, decode-home, decode-away}
use Rattle.reader.specs.Sizes.{sizes_of, Measured, out_of_range}

module _ (s : List ℕ) {z : Season} (e : z ≡ sizes_of s) where
  pub teams-read : z.teams ≡ (decode s).n
  unfolding sizes_of decode
  teams-read = ap (λ (y : Season). y.teams) e

  pub slots_read : z.slots ≡ (decode s).P
  unfolding sizes_of decode
  slots_read = ap (λ (y : Season). y.slots) e

  pub games-read : z.games ≡ (decode s).G
  unfolding sizes_of decode
  games-read = ap (λ (y : Season). y.games) e

  pub constraints-read : z.constraints ≡ (decode s).C
  unfolding sizes_of decode
  constraints-read = ap (λ (y : Season). y.constraints) e

  pub ruleset sizes_read = (teams-read, slots_read, games-read, constraints-read)

  pub length-asked : season_length s ≡ 6 + 2 * z.games + 24 * z.constraints
  unfolding season_length decode
  length-asked = rw (games-read, constraints-read)

  pub sizes-tested : sentence2 (decode s) ≡ out_of_range z
  unfolding sentence2 out_of_range
  sizes-tested = rw (teams-read, slots_read, games-read, constraints-read)

-- the ranges of sizes that are not outside
pub record SizesInRange (z : Season) : Type 0 where
  pub teams-least : 2 ≤ z.teams
  pub teams : z.teams ≤ most_teams
  pub slots-least : 1 ≤ z.slots
  pub slots : z.slots ≤ most_slots
  pub games : z.games ≤ most_games
  pub constraints : z.constraints ≤ most_constraints

pub in-range : (z : Season) → out_of_range z ≡ false → SizesInRange z
unfolding out_of_range
in-range z e =
    let sizes = sizes-in z.teams z.slots z.games z.constraints e in
    record { teams-least = sizes.0; teams = sizes.1; slots-least = sizes.2; slots = sizes.3; games = sizes.4; constraints = sizes.5 }

module _ (s : List ℕ) where
  pub right-length : {z : Season} → Measured s z → sentence3 s ≡ false
  unfolding sentence3
  right-length m = ap not (eq-eqb (length s) (season_length s) (m.whole ∙ sym (length-asked s m.sizes)))

  pub as_many : sentence3 s ≡ false → length (away_teams s) ≡ length (home_teams s)
  unfolding decode
  as_many h = decode-away s h ∙ sym (decode-home s h)

-- an item of what begins at place a
pub part_at : (s : List ℕ) (a i : ℕ) → slice_index (take (length s - a) (drop a s)) i ≡ get_or s (a + i) 0
part_at s a i = rw (take_all (length s - a) (drop a s) (omega (arith, length-drop a s)), get_or-drop)
