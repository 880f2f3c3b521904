-- A sheet on which one game gets a slot: one meeting more. Assumes nothing.
use mathlib.Core.Path.{◌≡◌}
use mathlib.Core.List.{List}
use mathlib.Core.Bool.{◌&&◌}
use Prim.Native.Nat.{ℕ, suc, ◌<◌}
use native.Mathlib.Omega.{arith}
use lib.Dec.{eqb}
use lib.ListN.{length, get_or, set}
use Rattle.std.proofs.lemmas.Bool.Decides.{nat_tests}
use Rattle.std.proofs.lemmas.Grind.{common_steps}
use Rattle.robinx.specs.Sums.{only}
use Rattle.robinx.specs.Timetable.{is_at, meetings}
use Rattle.timetable.proofs.Points.{sum-change}
use Rattle.timetable.proofs.Tied.{MeetsMore}

module _ (n : ℕ) (homes aways sheet : List ℕ) (g k : ℕ) (sized : length sheet ≡ length homes) (low : g < length homes)
    (lifted : get_or sheet g 0 ≡ 0) where
  pub meetings-more : MeetsMore n (get_or homes g 0) (get_or aways g 0) k (meetings homes aways sheet) (meetings homes aways (set sheet g (suc k)))
  unfolding meetings is_at
  meetings-more p q a lp lq =
      let before : only (is_at homes aways sheet p q a g) 1 ≡ 0 = grind (arith, nat_tests, lifted) in
      let after : only (is_at homes aways (set sheet g (suc k)) p q a g) 1
      ≡ only (eqb (get_or homes g 0) p && eqb (get_or aways g 0) q && eqb k a) 1
      = grind (arith, common_steps, sized, low) in
      omega (
        arith,
        sum-change
            {f = λ h. only (is_at homes aways sheet p q a h) 1}
            {h = λ h. only (is_at homes aways (set sheet g (suc k)) p q a h) 1}
            (length homes) g low (λ h lh e. grind (arith, common_steps, e)),
      )
