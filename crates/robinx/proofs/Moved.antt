-- The change of a total: what the touched constraints gained less what they lost is the fresh total after less the fresh total
-- before, modulo 2^64 and, read as two's complement, as an integer.
use mathlib.Core.Path.{◌≡◌, refl, sym, ap, ◌∙◌}
use mathlib.Core.List.{List}
use mathlib.Core.Bool.{Bool, true, false, ◌&&◌}
use Prim.Native.Nat.{ℕ, suc, ◌+◌, ◌-◌, ◌%◌, ◌^◌, ◌<◌, ◌≤◌}
use native.Mathlib.Omega.{arith}
use lib.Dec.{ltb}
use lib.IntN.{pos, negsuc, ◌+ℤ◌}
use lib.ListN.{get_or}
use borrow.Author.Tests.{ltb-true, ltb-false, le-ltb}
use mir.Syntax.{w64}
use mir.Val.{to_z, sel}
use Rattle.robinx.specs.Sums.{sum_to, only}
use Rattle.robinx.specs.Season.{Instance}
use Rattle.robinx.specs.Timetable.{X}
use Rattle.robinx.specs.Penalty.{penalty}
use Rattle.robinx.specs.Books.{deviations_at, penalty_at, total}
use Rattle.robinx.specs.Calls.{gained, lost, change, moved_total}
use Rattle.robinx.specs.declared.Constraint.{Constraint}
use Rattle.robinx.proofs.Sums.{sum-add, sum-le}
use Rattle.robinx.proofs.Ext.{sum-ext}

-- one constraint: p its penalty before, q after
balance-one : (t w : Bool) (p q : ℕ) → (t ≡ false → p ≡ q) → only (t && w) q + only w p ≡ only w q + only (t && w) p
balance-one true w p q h = omega arith
balance-one false w p q h = omega (arith, ap (only w) (h refl))

only-and-le : (t w : Bool) (p : ℕ) → only (t && w) p ≤ only w p
only-and-le true w p = omega arith
only-and-le false w p = omega arith

-- a number moved from a to b modulo 2^64 is moved by the change's two's complement
signed : (d a b : ℕ) → d < 2 ^ 64 → a < 2 ^ 60 → b < 2 ^ 60 → (a + d) % 2 ^ 64 ≡ b → pos a +ℤ to_z w64 d ≡ pos b
signed d a b ld la lb e = go (ltb d (2 ^ 63)) refl
  where
    go : (s : Bool) → ltb d (2 ^ 63) ≡ s → pos a +ℤ sel s (pos d) (negsuc (2 ^ 64 - suc d)) ≡ pos b
    go true h = ap pos (let l = ltb-true d (2 ^ 63) h in omega arith)
    go false h =
        let l = ltb-false d (2 ^ 63) h in
        rw (le-ltb a (suc (2 ^ 64 - suc d)) (omega arith)) (ap pos (omega arith))

module _ (m : Instance) (t : ℕ → Bool) (x y : X)
    (same : (c : ℕ) → t c ≡ false → deviations_at m x c ≡ deviations_at m y c)
    (tally : List ℕ) (held : (c : ℕ) → c < m.C → get_or tally c 0 ≡ penalty_at m x c)
    (want : Constraint → Bool) where
  wanted : ℕ → Bool
  wanted c = want (m.constraint c)

  lost-is : lost want m t tally m.C ≡ sum_to (λ c. only (t c && wanted c) (penalty_at m x c)) m.C
  unfolding lost wanted
  lost-is = sum-ext m.C (λ c l. ap (only (t c && wanted c)) (held c l))

  balance : gained want m t y m.C + total want m x ≡ total want m y + lost want m t tally m.C
  unfolding gained total wanted
  balance =
      sym (sum-add _ _ m.C)
      ∙ sum-ext m.C (λ c l. balance-one (t c) (wanted c) (penalty_at m x c) (penalty_at m y c)
      (λ e. ap (penalty (m.constraint c)) (same c e)))
      ∙ sum-add _ _ m.C
      ∙ ap (λ (v : ℕ). total want m y + v) (sym lost-is)

  lost-le : lost want m t tally m.C ≤ total want m x
  unfolding total wanted
  lost-le = let l = sum-le m.C (λ c l. only-and-le (t c) (wanted c) (penalty_at m x c)) in omega (arith, lost-is, l)

  module _ (before : total want m x < 2 ^ 60) (after : total want m y < 2 ^ 60) where
    -- the total, moved by the change, is the fresh one
    pub total-moved : moved_total (total want m x) (change want m t y tally) ≡ total want m y
    unfolding change
    total-moved = omega (arith, balance, lost-le)

    -- .. and the change is the difference of the two, as an integer
    pub change-adds : pos (total want m x) +ℤ to_z w64 (change want m t y tally) ≡ pos (total want m y)
    unfolding change
    change-adds = signed _ (total want m x) (total want m y) (omega arith) before after total-moved
