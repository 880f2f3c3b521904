-- A read adds its bytes behind those before it.
use Rattle.std.proofs.Common.{◌≡◌, ℕ, ◌+◌, ◌≤◌, List, ◌++◌, length, take, sym, ap, ◌∙◌, length-take-le, rules}
use Rattle.std.proofs.KnownBytes.{Consumes-trans}
use Rattle.std.proofs.lemmas.List.{take-append-le}
use Rattle.std.proofs.Math.Seq.{take-append-add}
use borrow.Rule.Slice.PartMut.{put_mid, post_of}
use Rattle.input.proofs.read_full.Goals as goal

take-more : (n more k : ℕ) (space part : List ℕ) → n ≤ length space → more ≤ length part
    → take (n + more) (put_mid n k space part) ≡ take n space ++ take more part
take-more n more k space part within fits =
    ap (λ (i : ℕ). take (i + more) (put_mid n k space part)) (sym (length-take-le n space within))
    ∙ take-append-add (take n space) (part ++ post_of n k space) more
    ∙ ap (λ (l : List ℕ). take n space ++ l) (take-append-le more part _ fits)

pub loop-n-preserved : goal.loop-n-preserved
loop-n-preserved g c = (
  search rules,
  rw (take-more c.loop-n.n c.in_ok-more.more _ c.loop-n.space c.read.new.buf c.loop-n.invariant.0 c.in_ok-more.ensures.bound.0)
      (Consumes-trans _ _ _ _ _ c.loop-n.invariant.1 c.in_ok-more.ensures.bytes.0),
)
