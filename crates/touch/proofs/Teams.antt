-- The teams of two moves as a group. A constraint whose T1 has no team of a move is not touched by it.
use mathlib.Core.Path.{◌≡◌, sym, ◌∙◌}
use mathlib.Core.Bool.{true, false, and-true, or-true}
use Prim.Native.Nat.{ℕ, ◌^◌}
use Rattle.std.proofs.Common.{Option, None, Some, MatchOption}
use lib.Bits.{bit_and, bit_or}
use borrow.Author.Tests.{eq-eqb}
use Rattle.std.proofs.lemmas.Nat.Bits.{bit_at-zero, bit_at-pow_same}
use Rattle.robinx.specs.Groups.{bit, has}
use Rattle.robinx.proofs.Bits.{and-has, or-has}
use Rattle.robinx.specs.declared.TouchTeams.{TouchTeams}
use Rattle.touch.specs.Touched.{Named, NamedToo, AsksForT1, PassedOver}
use Rattle.touch.specs.declared.moves.Move.{Move}

of_one : (k : ℕ) → has (2 ^ k) k ≡ true
of_one k = eq-eqb (bit (2 ^ k) k) 1 (bit_at-pow_same k)

module _ (m n k : ℕ) where
  -- a union has what either group has
  or_left : has m k ≡ true → has (bit_or m n) k ≡ true
  or_left h = or-has m n k ∙ rw h

  or_right : has n k ≡ true → has (bit_or m n) k ≡ true
  or_right h = or-has m n k ∙ rw h (or-true (has m k))

  -- of two groups with none in common the one has no team of the other
  apart : bit_and m n ≡ 0 → has n k ≡ true → has m k ≡ false
  apart e h = sym (rw (e, bit_at-zero, h, and-true) at (and-has m n k))

-- the group of a move, and a union with it
pub of_pair : (v : Move) → Named (bit_or (2 ^ v.game.home) (2 ^ v.game.away)) v
of_pair v = record { home = or_left _ _ _ (of_one v.game.home); away = or_right _ _ _ (of_one v.game.away) }

pub named_left : (m n : ℕ) {v : Move} → Named m v → Named (bit_or m n) v
named_left m n p = record { home = or_left m n _ p.home; away = or_left m n _ p.away }

pub named_right : (m n : ℕ) {v : Move} → Named n v → Named (bit_or m n) v
named_right m n p = record { home = or_right m n _ p.home; away = or_right m n _ p.away }

-- .. of a second move, if there is one
pub named_too : (m n : ℕ) (w : Option Move) → MatchOption w (n ≡ 0) (λ v. Named n v) → NamedToo (bit_or m n) w
named_too m n None p = tt
named_too m n (Some v) p = named_right m n p

pub ruleset named_rules = (named_left, named_too)

-- a group that has none of T1
pub passed_over : (asked : TouchTeams) (T1 teams : ℕ) → AsksForT1 asked → bit_and T1 teams ≡ 0 → PassedOver asked T1 teams
passed_over asked T1 teams asks e T2 i j hi hj = asks T1 T2 i j (apart T1 teams i e hi) (apart T1 teams j e hj)
