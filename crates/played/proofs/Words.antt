-- Integers modulo 2^64.
use Rattle.std.proofs.Common.{◌≡◌, ℕ, suc, ◌+◌, ◌-◌, ◌%◌, ◌^◌, ◌<◌, Bool, true, false, cond, ltb, ℤ, pos, negsuc, ◌+ℤ◌}
use Rattle.std.proofs.Common.{refl, arith, w64, SFits, to_z, of_z, ltb-false, ltb-true}
use lib.IntN.{sub_ℕ}
use Rattle.played.specs.Word.{word}

-- a number less another
word-less : (a b : ℕ) → word (sub_ℕ a (suc b)) ≡ (a % 2 ^ 64 + (2 ^ 64 - 1 - b % 2 ^ 64)) % 2 ^ 64
unfolding word
word-less a b = go (ltb a (suc b)) refl
  where
    go : (t : Bool) → ltb a (suc b) ≡ t
        → word (cond t (negsuc (suc b - suc a)) (pos (a - suc b))) ≡ (a % 2 ^ 64 + (2 ^ 64 - 1 - b % 2 ^ 64)) % 2 ^ 64
    go true e = let h = ltb-true a (suc b) e in omega arith
    go false e = let h = ltb-false a (suc b) e in omega arith

-- a sum modulo 2^64 is that of what is summed
pub word-adds : (a b : ℤ) → word (a +ℤ b) ≡ (word a + word b) % 2 ^ 64
unfolding word
word-adds (pos a) (pos b) = omega arith
word-adds (pos a) (negsuc b) = word-less a b
word-adds (negsuc a) (pos b) = let e = word-less b a in omega arith
word-adds (negsuc a) (negsuc b) = omega arith

-- a number below 2^64 is itself
pub word_small : (n : ℕ) → n < 2 ^ 64 → word (pos n) ≡ n
unfolding word
word_small n h = omega arith

-- a word read as two's complement and then modulo 2^64 is itself
pub word_signed : (n : ℕ) → n < 2 ^ 64 → word (to_z w64 n) ≡ n
unfolding word
word_signed n h = go (ltb n (2 ^ 63)) refl
  where
    go : (t : Bool) → ltb n (2 ^ 63) ≡ t → word (to_z w64 n) ≡ n
    go true e = rw e (omega arith)
    go false e = let low = ltb-false n (2 ^ 63) e in rw e (omega arith)

-- the bits of an integer that fits are the integer modulo 2^64
pub word_unsigned : (z : ℤ) → SFits w64 z → of_z w64 z ≡ word z
unfolding word
word_unsigned (pos n) f = let h = f.sfits in omega arith
word_unsigned (negsuc n) f = let h = f.sfits in omega arith
