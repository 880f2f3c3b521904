-- A run of calls over the set bits of v: what is left is of v, and a closure that is called at each item is called at bits of v. Assumes nothing.
use Rattle.std.proofs.Common.{◌≡◌, ℕ, ◌<◌, ◌^◌, true, List, [], ◌∷◌}
use mathlib.Core.Path.{subst}
use Rattle.std.specs.Iterator.{Yields, CallableAtEachTurn}
use Rattle.std.specs.List.{FoldsTo}
use Rattle.robinx.specs.Groups.{has}
use Rattle.bits.specs.declared.SetBits.{SetBits}
use Rattle.bits.specs.SetBits.{Steps}
use Rattle.bits.proofs.Lowest.{Part, whole, part-left, taken-has, taken-below}

part-along : {v : ℕ} (xs : List ℕ) (m r : SetBits) → Part m.rest v → Yields Steps m xs r → Part r.rest v
part-along {v} [] m r a y = subst (λ (m : SetBits). Part m.rest v) y a
part-along (x ∷ xs) m r a y = part-along xs y.0 r (part-left a y.1) y.2

-- I is kept by each call
module _ {P : Type 0} {R : P → ℕ → P → Type 0} (I : P → Type 0) (keeps : (p q : P) (x : ℕ) → I p → R p x q → I q) where
  kept-along : (xs : List ℕ) (p q : P) → I p → FoldsTo R p xs q → I q
  kept-along [] p q i k = subst I k i
  kept-along (x ∷ xs) p q i k = kept-along xs k.0 q (keeps p k.0 x i k.1) k.2

  pub serves : {Q : P → ℕ → Type 0} {v n : ℕ} {m : SetBits} {p : P} → m.rest ≡ v → v < 2 ^ n → I p
      → ((p : P) (x : ℕ) → I p → x < n → has v x ≡ true → Q p x) → CallableAtEachTurn Steps R Q m p
  serves {Q} {v} {n} {m} {p} e h i asks = record {
    at = λ xs t q x u y k s.
        let a = part-along xs m t (rw e (whole v)) y in asks q x (kept-along xs p q i k) (taken-below a s n h) (taken-has a s);
  }
