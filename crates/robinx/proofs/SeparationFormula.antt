-- SE1 over the slots of any two consecutive meetings, as RobinX writes it but with the slots between them for their distance, is the deviation
-- of Deviations. Assumes nothing.
use mathlib.Core.Path.{◌≡◌, refl, sym, ap, ◌∙◌}
use mathlib.Core.Bool.{Bool, true, false, ◌&&◌, not, and-false, or-false, or-true}
use Prim.Native.Nat.{ℕ, zero, suc, ◌+◌, ◌-◌, ◌<◌}
use native.Mathlib.Omega.{arith}
use native.Mathlib.Nat.{zero-add, add-zero}
use lib.Dec.{ltb}
use borrow.Author.Tests.{lt-ltb, le-ltb}
use Rattle.robinx.specs.Sums.{sum_to, only, any_to}
use Rattle.robinx.specs.Timetable.{X, meet, last_slot}
use Rattle.robinx.specs.Deviations.{each_pair, too_close, dev_se1}
use Rattle.robinx.specs.declared.Constraint.{Constraint}
use Rattle.robinx.proofs.Sums.{sum-zero, sum-swap, none_any}
use Rattle.robinx.proofs.Ext.{sum-ext, each_pair-ext}
use Rattle.robinx.proofs.Stops.{sum-stop}

module _ (game : ℕ → Bool) where
  -- a game in slot a, and none behind it before slot b
  abbrev last_before : ℕ → ℕ → Bool
  last_before b a = game a && not (any_to (λ k. ltb a k && game k) b)

  -- RobinX's y(i, j, s1, s2): games in slot a and in the later slot b, and none between them
  abbrev pub consecutive : ℕ → ℕ → Bool
  consecutive a b = ltb a b && game b && last_before b a

  no-game-behind : (k a : ℕ) → game k ≡ false → last_before (suc k) a ≡ last_before k a
  unfolding any_to
  no-game-behind k a e = rw (e, and-false, or-false)

  -- f of the last of the first k slots in which there is a game, counted from 1
  module _ (f : ℕ → ℕ) where
    abbrev OfLast : ℕ → Type 0
    OfLast k = only (ltb 0 (last_slot game k)) (f (last_slot game k)) ≡ sum_to (λ a. only (last_before k a) (f (suc a))) k

    of-next : (k : ℕ) (c : Bool) → game k ≡ c → OfLast k → OfLast (suc k)
    unfolding sum_to any_to last_slot
    of-next k true e h =
        let none-behind-k = none_any (λ i. ltb k i && game i) k (λ i l. rw (le-ltb k i (omega arith))) in
        rw (e, none-behind-k, le-ltb k k (omega arith), lt-ltb 0 (suc k) (omega arith))
        (sym (ap (λ (v : ℕ). v + f (suc k)) (sum-zero k (λ a l. simp (lt-ltb a k l, e, or-true, and-false))) ∙ zero-add (f (suc k))))
    of-next k false e h =
        simp (e, add-zero) (h ∙ sum-ext k (λ a l. ap (λ (b : Bool). only b (f (suc a))) (sym (no-game-behind k a e))))

    of-last : (k : ℕ) → OfLast k
    unfolding sum_to last_slot
    of-last zero = refl
    of-last (suc k) = of-next k _ refl (of-last k)

  by-later-slot : (w P b : ℕ) → b < P → (c : Bool) → game b ≡ c → too_close game w b ≡ sum_to (λ a. only (consecutive a b) (w - (b - a - 1))) P
  unfolding too_close
  by-later-slot w P b l false e = rw e (sym (sum-zero P (λ a la. simp and-false)))
  by-later-slot w P b l true e =
      let none-from-b-on = sum-stop b P (omega arith) (λ a. only (consecutive a b) (w - (b - a - 1))) (λ a la lp. rw (le-ltb a b la)) in
      rw (none-from-b-on, e)
      (of-last (λ s. w - (suc b - s - 1)) b
      ∙ sum-ext b (λ a la. rw (lt-ltb a b la) (ap (λ (v : ℕ). only (last_before b a) (w - v)) (omega arith))))

  pub by-both-slots : (w P : ℕ) → sum_to (too_close game w) P ≡ sum_to (λ a. sum_to (λ b. only (consecutive a b) (w - (b - a - 1))) P) P
  by-both-slots w P = sum-ext P (λ b l. by-later-slot w P b l _ refl) ∙ sum-swap (λ b a. only (consecutive a b) (w - (b - a - 1))) P P

pub formula-se1 : (n P : ℕ) (c : Constraint) (x : X)
    → dev_se1 n P c x
    ≡ each_pair n c.t1 (λ i j. sum_to (λ a. sum_to (λ b. only (consecutive (meet x i j) a b) (c.w - (b - a - 1))) P) P)
unfolding dev_se1
formula-se1 n P c x = each_pair-ext n c.t1 (λ i j li lj mi mj. by-both-slots (meet x i j) c.w P)
