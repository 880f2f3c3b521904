-- A `for` over three slices side by side: what a turn reads, and that it ends with the first of them. Assumes nothing.
use mathlib.Core.Path.{◌≡◌, ap, ◌∙◌}
use mathlib.Core.List.{List}
use Prim.Native.Nat.{ℕ, ◌<◌}
use native.Mathlib.Omega.{arith}
use lib.ListN.{length, get_or}
use denote.Ref.{Bor}
use Rattle.std.specs.declared.iter.Zip.{Zip}
use Rattle.std.specs.declared.slice.Iter.{Iter}
use Rattle.std.proofs.iter.Yields.{fronts}
use Rattle.std.specs.Prelude.{Option, Some, None}
use Rattle.std.specs.Iterator.{Yields}
use Rattle.std.specs.Slice.Iter.{iter_rest}
use Rattle.std.specs.List.{zip}
use Rattle.std.proofs.lemmas.List.{get_or_default}
use Rattle.std.proofs.lemmas.Slice.Zip.{length-zip, get_or-zip}
use Rattle.std.proofs.lemmas.Iterator.{zips, YieldsList, YieldsList-from_slice, YieldsList-from_zip}
use Rattle.std.proofs.lemmas.Iterator.Consumers.{YieldsList-turn, YieldsList-end}

abbrev Three : Type 0
Three = (Bor ℕ × Bor ℕ) × Bor ℕ

abbrev Walk : Type 0
Walk = Zip (Zip (Iter ℕ) (Iter ℕ)) (Iter ℕ)

abbrev steps : Walk → Option Three → Walk → Type 0
steps = zips (zips fronts fronts) fronts

module _ (ks vs ws : List ℕ) where
  -- the items are those of place n
  pub record At (n : ℕ) (x : Three) : Type 0 where
    pub within : n < length ks
    pub first : x.0.0.now ≡ get_or ks n 0
    pub second : x.0.1.now ≡ get_or vs n 0
    pub third : x.1.now ≡ get_or ws n 0

  at-place : (n i j b : ℕ) → n < length (zip (zip ks vs) ws) → ((i, j), b) ≡ get_or (zip (zip ks vs) ws) n ((i, j), b)
      → (n < length ks) × (i ≡ get_or ks n 0) × (j ≡ get_or vs n 0) × (b ≡ get_or ws n 0)
  at-place n i j b low e =
      let l : n < length (zip ks vs) = omega (arith, length-zip (zip ks vs) ws) in
      let lk : n < length ks = omega (arith, length-zip ks vs) in
      let lv : n < length vs = omega (arith, length-zip ks vs) in
      let lw : n < length ws = omega (arith, length-zip (zip ks vs) ws) in
      let all = rw (get_or-zip (zip ks vs) ws n _ l lw, get_or-zip ks vs n _ lk lv) at e in (
        lk,
        rw (get_or_default ks n i 0 lk) at (ap (λ p. p.0.0) all),
        rw (get_or_default vs n j 0 lv) at (ap (λ p. p.0.1) all),
        rw (get_or_default ws n b 0 lw) at (ap (λ p. p.1) all),
      )

  module _ (s : Walk) (first : iter_rest s.a.a ≡ ks) (second : iter_rest s.a.b ≡ vs) (third : iter_rest s.b ≡ ws)
      (xs : List Three) (t u : Walk) (y : Yields steps s xs t) (r : Option Three) (step : steps t r u) where
    road : YieldsList steps (λ x. ((x.0.0.now, x.0.1.now), x.1.now)) s (zip (zip ks vs) ws)
    road =
        YieldsList-from_zip (YieldsList-from_zip (YieldsList-from_slice ks first) (YieldsList-from_slice vs second))
        (YieldsList-from_slice ws third)

    pub three-turn : (x : Three) → r ≡ Some x → At (length xs) x
    three-turn x is =
        let t = YieldsList-turn road xs t y r u x is step in
        let p = at-place (length xs) x.0.0.now x.0.1.now x.1.now t.0 t.1 in
        record { within = p.0; first = p.1; second = p.2; third = p.3 }

    pub three-end : length vs ≡ length ks → length ws ≡ length ks → r ≡ None → length xs ≡ length ks
    three-end v w is = (YieldsList-end road xs t y r u is step).1 ∙ omega (arith, length-zip (zip ks vs) ws, length-zip ks vs)
