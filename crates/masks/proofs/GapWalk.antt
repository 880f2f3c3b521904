-- The closeness of a mask's games, from one game to the next: the slots passed over change nothing.
use Rattle.std.proofs.Common.{◌≡◌, ℕ, suc, ◌+◌, ◌-◌, ◌*◌, ◌<◌, ◌≤◌, Bool, true, false, true≢false, ltb, sym, refl, ◌∙◌, add-one, arith, lt-ltb}
use native.Mathlib.Decide.{dec_lt}
use Rattle.robinx.specs.Season.{most_slots}
use Rattle.robinx.specs.Sums.{only, sum_to}
use Rattle.robinx.specs.Groups.{has}
use Rattle.robinx.specs.Timetable.{last_slot}
use Rattle.robinx.specs.Deviations.{too_close}
use Rattle.robinx.proofs.Ext.{sum-ext, last_slot-ext}
use Rattle.robinx.proofs.Stops.{stop}
use Rattle.bits.specs.SetBits.{Lowest}
use Rattle.bits.proofs.Lowest.{not-up-to}
use Rattle.bits.proofs.Figures.{bare}
use Rattle.masks.proofs.Width.{close-stop}

-- no game from slot b up to the game in slot k
module _ (v w b k : ℕ) (up : b ≤ k) (game : has v k ≡ true) (none : (i : ℕ) → b ≤ i → i < k → has v i ≡ false) where
  with-next : sum_to (too_close (has v) w) (k + 1)
      ≡ sum_to (too_close (has v) w) b + only (ltb 0 (last_slot (has v) b)) (w - (suc k - last_slot (has v) b - 1))
  unfolding sum_to too_close last_slot
  with-next =
      let last = stop b k up (last_slot (has v)) (λ i l m. rw (none i l m)) in
      rw (add-one k, game, last, close-stop b k up (has v) w none) refl

pub closeness-none : (v w : ℕ) → v ≡ 0 → 0 ≡ sum_to (too_close (has v) w) most_slots
unfolding sum_to
closeness-none v w e = sym (close-stop 0 most_slots (omega arith) (has v) w (λ i l m. rw e (bare i)))

-- c is the sum of the games up to the last one passed; a game from slot far on is far enough from it, and rest has those behind it
pub record Summed (v w c far rest : ℕ) : Type 0 where
  pub last : ℕ
  pub room : far ≡ last + 1 + w
  pub within : last < most_slots
  pub game : has v last ≡ true
  pub passed : (i : ℕ) → i ≤ last → has rest i ≡ false
  pub behind : (i : ℕ) → last < i → has rest i ≡ has v i
  pub small : c ≤ 255 * last
  pub sum : c ≡ sum_to (too_close (has v) w) (last + 1)

module _ {v w : ℕ} where
  pub summed-first : {k r : ℕ} → Lowest v k r → Summed v w 0 (k + (1 + w)) r
  unfolding sum_to last_slot
  summed-first {k} l = record {
    last = k;
    room = omega arith;
    within = l.room;
    game = l.found;
    passed = not-up-to l;
    behind = λ i b. l.others i (λ q. omega arith);
    small = omega arith;
    sum = sym (with-next v w 0 k (omega arith) l.found (λ i b m. l.clear i m));
  }

  module _ {c far rest : ℕ} (s : Summed v w c far rest) where
    module _ {k r : ℕ} (l : Lowest rest k r) where
      later : s.last < k
      later = go (dec_lt s.last k)
        where
          go : Dec (s.last < k) → s.last < k
          go (yes m) = m
          go (no m) = absurd (true≢false (sym l.found ∙ s.passed k (omega (arith, m))))

      -- a byte bounds what a game adds
      pub near : w ≤ 255 → far - k ≤ 255
      near m = omega (arith, s.room, later, m)

      pub summed-next : far - k ≤ 255 → Summed v w (c + (far - k)) (k + (1 + w)) r
      unfolding last_slot
      summed-next m =
          let game = sym (s.behind k later) ∙ l.found in
          let last : last_slot (has v) (s.last + 1) ≡ suc s.last = rw (add-one s.last, s.game) refl in
          let gap : w - (suc k - suc s.last - 1) ≡ far - k = omega (arith, later, s.room) in
          record {
            last = k;
            room = omega arith;
            within = l.room;
            game = game;
            passed = not-up-to l;
            behind = λ i b. l.others i (λ q. omega arith) ∙ s.behind i (omega (arith, later));
            small = omega (arith, s.small, later, m);
            sum =
                rw (
                  with-next v w (s.last + 1) k (omega (arith, later)) game (λ i b n. sym (s.behind i (omega arith)) ∙ l.clear i n),
                  last,
                  lt-ltb 0 (suc s.last) (omega arith),
                  gap,
                  ← s.sum,
                ) refl;
          }

    pub summed-all : rest ≡ 0 → c ≡ sum_to (too_close (has v) w) most_slots
    summed-all z =
        s.sum ∙ sym (close-stop (s.last + 1) most_slots (omega (arith, s.within)) (has v) w
        (λ i l m. sym (s.behind i (omega arith)) ∙ rw z (bare i)))

-- closeness by equal tests of slots
pub close-ext : (w P : ℕ) {p q : ℕ → Bool} → ((k : ℕ) → k < P → p k ≡ q k) → sum_to (too_close p w) P ≡ sum_to (too_close q w) P
unfolding too_close
close-ext w P h = sum-ext P (λ k l. rw (h k l, last_slot-ext k (λ a la. h a (omega arith))))
