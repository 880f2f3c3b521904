-- A group that the rules allow has only members below n, so that its set bits are its size: the rules and the number of deviations
-- may be read off set bits.
use mathlib.Core.Path.{◌≡◌, refl, ◌∙◌}
use mathlib.Core.Bool.{Bool, true, false, ◌&&◌, ◌||◌, not, and_assoc}
use Prim.Native.Nat.{ℕ, ◌-◌, ◌^◌, ◌<◌}
use lib.Dec.{leb}
use lib.Pow.{lt_of_le_ones}
use Rattle.std.proofs.lemmas.Bool.{and_parts}
use Rattle.robinx.specs.Season.{slots_of}
use Rattle.robinx.specs.Groups.{size}
use Rattle.robinx.specs.Kinds.{form_at}
use Rattle.robinx.specs.Rules.{fits, holds, several_teams, keeps, obeys}
use Rattle.robinx.specs.Deviations.{in_shape, entries}
use Rattle.robinx.specs.declared.Constraint.{Constraint}
use Rattle.robinx.specs.declared.Asks.{Asks}
use Rattle.robinx.specs.declared.Shape.{Shape}
use Rattle.robinx.specs.declared.Shape.TheVariants.{Nothing, One, EachTeam, EachPair, OneOrEachSlot}
use Rattle.robinx.proofs.GroupSizes.{size-ones}
use Rattle.robinx.proofs.Limits.{fits_in, holds-le, obeyed}
use Rattle.groups.proofs.Pairs.{pairs-in}
use Rattle.rules.specs.CountedBits.{head_keeps, counts_keep, groups_keep, several_keep, sizes_keep, ones_in}

-- a test counts only where the one before it holds
guarded : (a b x y : Bool) → (b ≡ true → x ≡ y) → a && b && x ≡ a && b && y
guarded true true x y h = h refl
guarded true false x y h = refl
guarded false b x y h = refl

module _ (f : Asks) (n P : ℕ) (c : Constraint) where
  -- the four parts
  abbrev head : Bool
  head = head_keeps f.first f.last f.squares c

  abbrev counts : Bool
  counts = counts_keep f.kmin f.kmax f.w c

  abbrev members : Bool
  members = groups_keep f.t2 f.s n P c

  -- the rules of the sizes as the definitions have them
  unfoldable sizes : Bool
  sizes = leb f.fewest (size n c.t1) && (not f.several || several_teams n c)

  sizes-counted : members ≡ true → sizes ≡ sizes_keep f.fewest f.several c
  unfolding groups_keep sizes sizes_keep several_keep
  sizes-counted e =
      let teams =
      and_parts (fits 1 (2 ^ n - 1) c.t1) (holds f.t2 c.kmax (2 ^ n - 1) c.t2)
      (and_parts _ (holds f.s c.kmax (2 ^ P - 1) (slots_of c)) e).0 in
      rw (
        size-ones n c.t1 (lt_of_le_ones n (fits_in 1 _ c.t1 teams.0).1),
        size-ones n c.t2 (lt_of_le_ones n (holds-le f.t2 c.kmax _ c.t2 teams.1)),
      )

  in_parts : keeps f n P c ≡ head && counts && members && sizes
  unfolding keeps head_keeps counts_keep groups_keep sizes
  in_parts = simp and_assoc

  pub keeps_counted : keeps f n P c ≡ head && counts && members && sizes_keep f.fewest f.several c
  keeps_counted = in_parts ∙ guarded (head && counts) members sizes (sizes_keep f.fewest f.several c) sizes-counted

module _ (n P : ℕ) (c : Constraint) (t1 : c.t1 < 2 ^ n) (s : slots_of c < 2 ^ P) where
  shape-counted : (h : Shape) → in_shape h n P c ≡ ones_in h c
  unfolding ones_in
  shape-counted Nothing = refl
  shape-counted One = refl
  shape-counted EachTeam = size-ones n c.t1 t1
  shape-counted EachPair = pairs-in n c.t1 t1
  shape-counted OneOrEachSlot = rw (size-ones P (slots_of c) s)

pub entries-counted : (n P : ℕ) (c : Constraint) → obeys n P c ≡ true → entries n P c ≡ ones_in (form_at c.kind).shape c
unfolding entries
entries-counted n P c h = let o = obeyed n P c h in shape-counted n P c o.t1 o.s (form_at c.kind).shape
