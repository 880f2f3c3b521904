-- The figures of the teams are the deviations of CA1, CA2 and CA3.
use mathlib.Core.Path.{◌≡◌, ap, ◌∙◌}
use Prim.Native.Nat.{ℕ, suc, ◌+◌, ◌-◌}
use native.Mathlib.Omega.{arith}
use native.Mathlib.Numerals.{add-one}
use Rattle.robinx.specs.Season.{most_slots, slots_of}
use Rattle.robinx.specs.Groups.{bit}
use Rattle.robinx.specs.Deviations.{over, outside, in_run}
use Rattle.robinx.specs.declared.Constraint.{Constraint}
use Rattle.robinx.proofs.Ext.{sum-ext, over-ext}
use Rattle.opponents.specs.Figures.{of_check}
use Rattle.opponents.specs.declared.check.Check.{Check}
use Rattle.opponents.specs.Games.{MaskOf}
use Rattle.opponents.proofs.Checkable.{over-slots}
use Rattle.rows.specs.Rows.{off_in_runs}
use Rattle.counts.specs.TeamCounts.{counted, off_count, off_runs}

module _ (k : Check) where
  abbrev c : Constraint
  c = k.constraint

  abbrev P : ℕ
  P = k.sizes.slots

  -- a mask's count is that of the games it stands for, and so are its runs
  pub count-games : (T t m : ℕ) → MaskOf (of_check counted k T t) m
      → outside c.kmin c.kmax (over most_slots (slots_of c) (bit m)) ≡ of_check off_count k T t
  count-games T t m mask =
      ap (outside c.kmin c.kmax) (over-slots k.checkable (bit m) ∙ over-ext P (slots_of c) (λ i l h. mask i (omega (arith, k.checkable.slots))))

  pub run-games : (t m : ℕ) → MaskOf (of_check counted k c.t2 t) m → off_in_runs (bit m) c.w c.kmin c.kmax (P + 1 - c.w) ≡ of_check off_runs k t
  unfolding in_run
  run-games t m mask =
      rw (add-one P)
      (sum-ext (suc P - c.w) (λ a la. ap (outside c.kmin c.kmax) (sum-ext c.w (λ d ld. mask (a + d) (omega (arith, k.checkable.slots))))))
