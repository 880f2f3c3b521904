-- The words of the patterns are their two halves: what laying both makes of a summary, and that one differs from them in a half.
use mathlib.Core.Path.{◌≡◌, refl, sym, ap, ap₂, ◌∙◌}
use mathlib.Core.List.{List, [], ◌∷◌, ◌++◌}
use mathlib.Core.Bool.{Bool, true, false, ◌&&◌, ◌||◌, not, or_assoc, or-false, and_assoc}
use Prim.Native.Nat.{ℕ, zero, suc, ◌<◌, ◌≤◌}
use native.Mathlib.Omega.{arith}
use lib.Dec.{eqb}
use lib.ListN.{length, get_or, take, drop, length-append, length-drop, length-take}
use Rattle.robinx.specs.Sums.{any_to, list_to}
use Rattle.robinx.specs.Season.{most_teams}
use Rattle.robinx.specs.Summary.{summary_words, team_words}
use Rattle.robinx.specs.Refusals.{sentence14_open, disagrees}
use Rattle.robinx.proofs.Consequences.{words}
use Rattle.robinx.proofs.Ext.{cat-ext}
use Rattle.robinx.proofs.Summary.{length-words}
use Rattle.tables.specs.declared.Patterns.{Patterns}
use Rattle.std.specs.Cmp.Lexicographic.{pointwise}
use Rattle.std.proofs.lemmas.List.{append-nil, drop_all, take_all, take_at, take-append-drop}
use borrow.Author.Tests.{eqb-true}
use Rattle.summary.specs.PatternWords.{words_of}

-- the patterns' two halves are their words
words-joined : (p : Patterns) → length p.home ≡ most_teams → length p.away ≡ most_teams → p.home ++ p.away ≡ words_of p
words-joined p h a = sym (ap₂ ◌++◌ (each p.home h) (each p.away a))
  where
    each : (l : List ℕ) → length l ≡ most_teams → list_to (λ t. get_or l t 0) most_teams ≡ l
    each l e = words l most_teams (omega arith) ∙ take_all most_teams l (omega arith)

-- equal words of each team make equal words of all
pub same-words : {home away home' away' : ℕ → ℕ} → ((t : ℕ) → t < most_teams → home t ≡ home' t) → ((t : ℕ) → t < most_teams → away t ≡ away' t)
    → team_words home away ≡ team_words home' away'
same-words at_home at-away =
    ap₂ ◌++◌ (cat-ext most_teams (λ t l. ap (λ (v : ℕ). v ∷ []) (at_home t l))) (cat-ext most_teams (λ t l. ap (λ (v : ℕ). v ∷ []) (at-away t l)))

-- one half laid over the first words, then the other over the rest
pub halves_are_the_words : (p : Patterns) (l : List ℕ) → length l ≡ summary_words → length p.home ≡ most_teams → length p.away ≡ most_teams
    → take most_teams (p.home ++ drop most_teams l) ++ (p.away ++ drop most_teams (drop most_teams (p.home ++ drop most_teams l))) ≡ words_of p
halves_are_the_words p l n h a =
    let rest = drop most_teams l in
    let few : length (drop most_teams (p.home ++ rest)) ≤ most_teams =
    omega (arith, length-drop most_teams l, length-append p.home rest, length-drop most_teams (p.home ++ rest)) in
    rw (take_at p.home rest most_teams h, drop_all most_teams (drop most_teams (p.home ++ rest)) few, append-nil) (words-joined p h a)

-- a search from the first place on
any-first : (f : ℕ → Bool) (n : ℕ) → any_to f (suc n) ≡ f 0 || any_to (λ k. f (suc k)) n
unfolding any_to
any-first f zero = rw or-false
any-first f (suc n) = ap (λ (b : Bool). b || f (suc n)) (any-first f n) ∙ or_assoc (f 0) (any_to (λ k. f (suc k)) n) (f (suc n))

one-fails : (a b : Bool) → not (a && b) ≡ not a || not b
one-fails true b = refl
one-fails false b = refl

-- two lists of one length
differs-somewhere : (xs ys : List ℕ) → length xs ≡ length ys
    → not (pointwise eqb xs ys) ≡ any_to (λ t. not (eqb (get_or xs t 0) (get_or ys t 0))) (length ys)
unfolding any_to
differs-somewhere [] [] e = refl
differs-somewhere [] (y ∷ ys) e = absurd (omega arith)
differs-somewhere (x ∷ xs) [] e = absurd (omega arith)
differs-somewhere (x ∷ xs) (y ∷ ys) e =
    one-fails (eqb x y) (pointwise eqb xs ys)
    ∙ ap (λ (b : Bool). not (eqb x y) || b) (differs-somewhere xs ys (omega arith))
    ∙ sym (any-first (λ t. not (eqb (get_or (x ∷ xs) t 0) (get_or (y ∷ ys) t 0))) (length ys))

same-halves : (xs zs ys ws : List ℕ) → length xs ≡ length zs → pointwise eqb (xs ++ ys) (zs ++ ws) ≡ pointwise eqb xs zs && pointwise eqb ys ws
same-halves [] [] ys ws e = refl
same-halves [] (z ∷ zs) ys ws e = absurd (omega arith)
same-halves (x ∷ xs) [] ys ws e = absurd (omega arith)
same-halves (x ∷ xs) (z ∷ zs) ys ws e =
    ap (λ (b : Bool). eqb x z && b) (same-halves xs zs ys ws (omega arith)) ∙ sym (and_assoc (eqb x z) (pointwise eqb xs zs) (pointwise eqb ys ws))

pub differs_in_a_half : (p : Patterns) (held : List ℕ) → length p.home ≡ most_teams → length p.away ≡ most_teams
    → disagrees held (words_of p)
    ≡ sentence14_open held || (not (pointwise eqb (take most_teams held) p.home) || not (pointwise eqb (drop most_teams held) p.away))
unfolding disagrees sentence14_open
differs_in_a_half p held h a = go (eqb (length held) summary_words) refl
  where
    go : (b : Bool) → eqb (length held) summary_words ≡ b
        → not b || any_to (λ q. not (eqb (get_or held q 0) (get_or (words_of p) q 0))) summary_words
        ≡ not b || (not (pointwise eqb (take most_teams held) p.home) || not (pointwise eqb (drop most_teams held) p.away))
    go false e = refl
    go true e =
        let n = eqb-true (length held) summary_words e in
        let both = same-halves (take most_teams held) p.home (drop most_teams held) p.away (omega (arith, n, length-take most_teams held)) in
        sym (rw (← one-fails, ← both, take-append-drop, words-joined p h a)
        (rw length-words at (differs-somewhere held (words_of p) (n ∙ sym (length-words _ _)))))
