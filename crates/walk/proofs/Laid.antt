-- A list whose parts are worked out one after the other, each in its own place: what it is after k parts. Assumes nothing.
use mathlib.Core.Path.{◌≡◌, refl, sym, ap, ◌∙◌}
use mathlib.Core.List.{List, [], ◌∷◌, ◌++◌, append-nil, append_assoc}
use Prim.Native.Nat.{ℕ, suc, ◌+◌, ◌-◌, ◌<◌, ◌≤◌}
use native.Mathlib.Nat.{add-zero}
use native.Mathlib.Omega.{arith}
use lib.ListN.{length, get_or, set, take, drop, length-append, length-drop, take-append-drop}
use lib.Seq.{take_at, drop_at, drop-drop, drop-length, length-take-le, set_split, set-get_or, get_or-drop}
use Rattle.robinx.specs.Sums.{sum_to, cat_to}
use Rattle.robinx.proofs.Sums.{sum_step, sum_mono, cat-step}

-- how long a part from a to e of a list is
pub part_length : (l : List ℕ) (a e n : ℕ) → e ≡ a + n → e ≤ length l → length (take (e - a) (drop a l)) ≡ n
part_length l a e n p h =
    let d : e - a ≡ n = omega arith in
    rw d (length-take-le n (drop a l) (rw length-drop (omega arith)))

-- a list cut at a part, with the part as it is
cut : (l : List ℕ) (a n : ℕ) → l ≡ take a l ++ (take n (drop a l) ++ drop n (drop a l))
cut l a n = sym (rw (take-append-drop n (drop a l)) (take-append-drop a l))

-- part number k has size k places
module _ (size : ℕ → ℕ) (part : ℕ → List ℕ) (l₀ : List ℕ) where
  -- the first k parts are laid and end at a, and the rest is as it was
  pub record Laid (k a : ℕ) (l : List ℕ) : Type 0 where
    pub place : a ≡ sum_to size k
    pub front : length (cat_to part k) ≡ a
    pub list : l ≡ cat_to part k ++ drop a l₀
    pub long : length l ≡ length l₀

  pub laid_none : Laid 0 0 l₀
  unfolding cat_to sum_to
  laid_none = record { place = refl; front = refl; list = refl; long = refl }

  pub laid-rest : (k a : ℕ) (l : List ℕ) → Laid k a l → drop a l ≡ drop a l₀
  laid-rest k a l i = rw i.list (drop_at (cat_to part k) (drop a l₀) a i.front)

  pub laid-fits : (k n a : ℕ) (l : List ℕ) → Laid k a l → k < n → sum_to size n ≤ length l₀ → a + size k ≤ length l
  laid-fits k n a l i h e = omega (arith, sum_step size k, sum_mono size (k + 1) n (omega arith), i.place, i.long)

  -- part k worked out in its place
  pub laid_more : (k a e : ℕ) (l l' ys : List ℕ) → Laid k a l → e ≡ a + size k → e ≤ length l₀ → ys ≡ part k → length ys ≡ size k
      → l' ≡ take a l ++ (ys ++ drop (e - a) (drop a l)) → Laid (k + 1) e l'
  laid_more k a e l l' ys i he hl hy hn hl' =
      let d : e - a ≡ size k = omega arith in
      let p = cat-step part k in
      let q : take a l ≡ cat_to part k = rw i.list (take_at (cat_to part k) (drop a l₀) a i.front) in
      let m : l' ≡ cat_to part (k + 1) ++ drop e l₀ =
      hl' ∙ rw (q, laid-rest k a l i, d, drop-drop (size k) a l₀, ← he, p, append_assoc, hy) in
      let f : length (cat_to part (k + 1)) ≡ e = rw (p, length-append, i.front, ← hy, hn, he) in
      record {
        place = he ∙ rw (sum_step size k, i.place);
        front = f;
        list = m;
        long = rw (m, length-append, f, length-drop) (omega arith);
      }

  -- .. and part k as it was
  pub laid_kept : (k a e : ℕ) (l : List ℕ) → Laid k a l → e ≡ a + size k → e ≤ length l₀ → take (size k) (drop a l₀) ≡ part k
      → Laid (k + 1) e l
  laid_kept k a e l i he hl hy =
      let d : e - a ≡ size k = omega arith in
      laid_more k a e l l (take (size k) (drop a l)) i he hl
      (rw (laid-rest k a l i) hy)
      (rw d at (part_length l a e (size k) he (omega (arith, i.long))))
      (rw d (cut l a (size k)))

  pub laid_done : (n a : ℕ) (l : List ℕ) → Laid n a l → length l₀ ≡ sum_to size n → l ≡ cat_to part n
  laid_done n a l i e =
      let h : a ≡ length l₀ = i.place ∙ sym e in
      i.list ∙ rw (h, drop-length, append-nil)

-- Parts of one place each.
abbrev pub ones : ℕ → ℕ
ones k = 1

module _ (f : ℕ → ℕ) (l₀ : List ℕ) where
  -- the first k words are laid
  abbrev pub Listed : ℕ → List ℕ → Type 0
  Listed k l = Laid ones (λ c. f c ∷ []) l₀ k k l

  pub listed-old : (k : ℕ) (l : List ℕ) → Listed k l → get_or l k 0 ≡ get_or l₀ k 0
  listed-old k l i =
      let d : (s : List ℕ) → get_or (drop k s) 0 0 ≡ get_or s k 0 = λ s. get_or-drop k s 0 0 ∙ rw add-zero in
      sym (d l) ∙ rw (laid-rest ones (λ c. f c ∷ []) l₀ k k l i) (d l₀)

  pub listed_more : (k v : ℕ) (l : List ℕ) → Listed k l → k < length l₀ → v ≡ f k → Listed (k + 1) (set l k v)
  listed_more k v l i h e =
      laid_more ones (λ c. f c ∷ []) l₀ k k (k + 1) l (set l k v) (v ∷ []) i refl (omega arith) (ap (λ (u : ℕ). u ∷ []) e) refl
      (let d : k + 1 - k ≡ 1 = omega arith in
      let s : suc k ≡ k + 1 = omega arith in
      set_split l k v (omega (arith, i.long)) ∙ rw (d, drop-drop 1 k l, s))

  pub listed_kept : (k : ℕ) (l : List ℕ) → Listed k l → k < length l₀ → get_or l₀ k 0 ≡ f k → Listed (k + 1) l
  listed_kept k l i h e = rw (set-get_or l k 0) at (listed_more k (get_or l k 0) l i h (listed-old k l i ∙ e))
