-- How long the lists of deviations and the books are, and where a constraint's own figures stand in them. Assumes nothing.
use mathlib.Core.Path.{◌≡◌, refl, sym, ap, ap₂, ◌∙◌}
use mathlib.Core.List.{List, [], ◌∷◌, ◌++◌, append_assoc, append-nil}
use mathlib.Core.Bool.{Bool, true, false, cond}
use Prim.Native.Nat.{ℕ, zero, suc, ◌+◌, ◌<◌}
use native.Mathlib.Omega.{arith}
use native.Mathlib.Decide.{ℕ_discrete}
use lib.ListN.{length, length-append, get_or, take, drop}
use lib.Seq.{get_or-append-add, get_or_at, take_at, drop_at}
use Rattle.robinx.specs.Sums.{sum_to, cat_to, list_to, only, only_l}
use Rattle.robinx.specs.Groups.{has, size, is_pair, pairs}
use Rattle.robinx.specs.Season.{Instance, slots_of}
use Rattle.robinx.specs.Timetable.{X, first_modes}
use Rattle.robinx.specs.Kinds.{kind_of, form_of, form_at}
use Rattle.robinx.specs.declared.Kind.{Kind}
use Rattle.robinx.specs.declared.Kind.TheVariants.{Ca1, Ca2, Ca3, Ca4, Ca5, Ga1, Br1, Br2, Br4, Fa1, Fa2, Se1, Unknown}
use Rattle.robinx.specs.Deviations.{each, each_pair, deviations_of, deviations, in_shape, entries}
use Rattle.robinx.specs.Deviations.{dev_ca1, dev_ca2, dev_ca3, dev_ca4, dev_ca5, dev_ga1, dev_br1, dev_br2, dev_br4, dev_fa1, dev_fa2, dev_se1}
use Rattle.robinx.specs.Books.{timetable, deviations_at, penalty_at, entries_at, start_at, all_entries, fresh_ledger, fresh_tally}
use Rattle.robinx.specs.Calls.{stretch_at}
use Rattle.robinx.specs.declared.Constraint.{Constraint}

-- Lists that grow at their end.
pub length-cat : (f : ℕ → List ℕ) {len : ℕ → ℕ} (n : ℕ) → ((k : ℕ) → length (f k) ≡ len k) → length (cat_to f n) ≡ sum_to len n
unfolding cat_to sum_to
length-cat f zero h = refl
length-cat f (suc n) h = length-append (cat_to f n) (f n) ∙ ap₂ ◌+◌ (length-cat f n h) (h n)

-- f c stands right behind the lists of the numbers below c
abbrev pub Split : (ℕ → List ℕ) → ℕ → List ℕ → Type 0
Split f c l = (after : List ℕ) × (l ≡ cat_to f c ++ (f c ++ after))

pub cat-split : (f : ℕ → List ℕ) (n c : ℕ) (rest : List ℕ) → c < n → Split f c (cat_to f n ++ rest)
unfolding cat_to
cat-split f zero c rest l = let z : ⊥ = omega arith in absurd z
cat-split f (suc n) c rest l = rw (append_assoc (cat_to f n) (f n) rest) (go (ℕ_discrete c n) (cat-split f n c (f n ++ rest)))
  where
    go : Dec (c ≡ n) → (c < n → Split f c (cat_to f n ++ (f n ++ rest))) → Split f c (cat_to f n ++ (f n ++ rest))
    go (yes e) below = (rest, rw e)
    go (no e) below = below (omega (arith, e))

pub stretch-of : (f : ℕ → List ℕ) (len : ℕ → ℕ) → ((k : ℕ) → length (f k) ≡ len k)
    → (n c : ℕ) → c < n → take (len c) (drop (sum_to len c) (cat_to f n)) ≡ f c
stretch-of f len h n c l =
    let s = cat-split f n c [] l in
    ap (λ (r : List ℕ). take (len c) (drop (sum_to len c) r)) (sym (append-nil (cat_to f n)) ∙ s.1)
    ∙ ap (take (len c)) (drop_at (cat_to f c) _ _ (length-cat f c h))
    ∙ take_at (f c) _ _ (h c)

pub length-list_to : (f : ℕ → ℕ) (n : ℕ) → length (list_to f n) ≡ n
unfolding cat_to
length-list_to f zero = refl
length-list_to f (suc n) = length-append (list_to f n) (f n ∷ []) ∙ omega (arith, length-list_to f n)

pub list_at : (f : ℕ → ℕ) (n c : ℕ) (rest : List ℕ) → c < n → get_or (list_to f n ++ rest) c 0 ≡ f c
list_at f n c rest l =
    let s = cat-split (λ k. f k ∷ []) n c rest l in
    ap (λ (r : List ℕ). get_or r c 0) s.1 ∙ get_or_at (list_to f c) (f c) s.0 0 c (length-list_to f c)

pub list-beyond : (f : ℕ → ℕ) (n d : ℕ) (rest : List ℕ) → get_or (list_to f n ++ rest) (n + d) 0 ≡ get_or rest d 0
list-beyond f n d rest =
    ap (λ (k : ℕ). get_or (list_to f n ++ rest) (k + d) 0) (sym (length-list_to f n)) ∙ get_or-append-add (list_to f n) rest d 0

-- A constraint has as many deviations as `entries` says, whatever the timetable.
length-only_l : (b : Bool) (a : ℕ) → length (only_l b (a ∷ [])) ≡ only b 1
length-only_l true a = refl
length-only_l false a = refl

pub length-each : (n T : ℕ) (f : ℕ → ℕ) → length (each n T f) ≡ size n T
unfolding each size
length-each n T f = length-cat _ n (λ t. length-only_l (has T t) (f t))

pub length-each_pair : (n T : ℕ) (f : ℕ → ℕ → ℕ) → length (each_pair n T f) ≡ pairs n T
unfolding each_pair pairs
length-each_pair n T f = length-cat _ n (λ i. length-cat _ n (λ j. length-only_l (is_pair T i j) (f i j)))

length-cond : (b : Bool) (a : ℕ) (l : List ℕ) → length (cond b (a ∷ []) l) ≡ cond b 1 (length l)
length-cond true a l = refl
length-cond false a l = refl

length_of : (k : Kind) (n P : ℕ) (c : Constraint) (x : X) → length (deviations_of k n P c x) ≡ in_shape (form_of k).shape n P c
unfolding form_of deviations_of dev_ca1 dev_ca2 dev_ca3 dev_ca4 dev_ca5 dev_ga1 dev_br1 dev_br2 dev_br4 dev_fa1 dev_fa2 dev_se1
length_of Ca1 n P c x = length-each n c.t1 _
length_of Ca2 n P c x = length-each n c.t1 _
length_of Ca3 n P c x = length-each n c.t1 _
length_of Ca4 n P c x = length-cond (first_modes c.mode) _ _ ∙ ap (cond (first_modes c.mode) 1) (length-each P (slots_of c) _)
length_of Ca5 n P c x = length-each n c.t1 _
length_of Ga1 n P c x = refl
length_of Br1 n P c x = length-each n c.t1 _
length_of Br2 n P c x = refl
length_of Br4 n P c x = length-each n c.t1 _
length_of Fa1 n P c x = length-each n c.t1 _
length_of Fa2 n P c x = length-each_pair n c.t1 _
length_of Se1 n P c x = length-each_pair n c.t1 _
length_of Unknown n P c x = refl

pub length-deviations : (n P : ℕ) (c : Constraint) (x : X) → length (deviations n P c x) ≡ entries n P c
unfolding deviations entries form_at
length-deviations n P c x = length_of (kind_of c.kind) n P c x

-- The fresh books.
pub stretch-fresh : (m : Instance) (sheet : List ℕ) (c : ℕ) → c < m.C
    → stretch_at m (fresh_ledger m sheet) c ≡ deviations_at m (timetable m sheet) c
unfolding stretch_at start_at fresh_ledger
stretch-fresh m sheet c l =
    stretch-of (deviations_at m (timetable m sheet)) (entries_at m) (λ k. length-deviations m.n m.P (m.constraint k) _) m.C c l

pub length-ledger : (m : Instance) (sheet : List ℕ) → length (fresh_ledger m sheet) ≡ all_entries m
unfolding start_at fresh_ledger
length-ledger m sheet = length-cat _ m.C (λ k. length-deviations m.n m.P (m.constraint k) (timetable m sheet))

pub length-tally : (m : Instance) (sheet : List ℕ) → length (fresh_tally m sheet) ≡ m.C + 2
unfolding fresh_tally
length-tally m sheet =
    length-append (list_to (penalty_at m (timetable m sheet)) m.C) _
    ∙ ap (λ (k : ℕ). k + 2) (length-list_to (penalty_at m (timetable m sheet)) m.C)
