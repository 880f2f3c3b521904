-- Figures over slots, none of which counts from P on, may stop at P.
use Rattle.std.proofs.Common.{◌≡◌, ℕ, ◌^◌, ◌<◌, ◌≤◌, Bool, false}
use Rattle.robinx.specs.Sums.{sum_to, only}
use Rattle.robinx.specs.Groups.{has}
use Rattle.robinx.specs.Deviations.{over, worst, too_close}
use Rattle.robinx.proofs.SetBits.{none-past}
use Rattle.robinx.proofs.Stops.{sum-stop, max-stop}

module _ (P N : ℕ) (l : P ≤ N) where
  -- over the slots of a mask
  pub over-stop : (S : ℕ) (f : ℕ → ℕ) → S < 2 ^ P → over N S f ≡ over P S f
  unfolding over
  over-stop S f h = sum-stop P N l (λ k. only (has S k) (f k)) (λ k a b. rw (none-past S P h k a))

  pub worst-stop : (S : ℕ) (f : ℕ → ℕ) → S < 2 ^ P → worst N S f ≡ worst P S f
  unfolding worst
  worst-stop S f h = max-stop P N l (λ k. only (has S k) (f k)) (λ k a b. rw (none-past S P h k a))

  -- of games none of which is from P on
  pub close-stop : (game : ℕ → Bool) (w : ℕ) → ((k : ℕ) → P ≤ k → k < N → game k ≡ false)
      → sum_to (too_close game w) N ≡ sum_to (too_close game w) P
  unfolding too_close
  close-stop game w none = sum-stop P N l (too_close game w) (λ k a b. rw (none k a b))

  pub closeness-stop : (v w : ℕ) → v < 2 ^ P → sum_to (too_close (has v) w) N ≡ sum_to (too_close (has v) w) P
  closeness-stop v w h = close-stop (has v) w (λ k a b. none-past v P h k a)
