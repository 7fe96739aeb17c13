-- The lengths of what is written.
use Rattle.std.proofs.Common.{◌≡◌, ℕ, ◌+◌, ◌/◌, List, ◌++◌, length, append_assoc, append-nil, [], arith}
use Rattle.std.proofs.lemmas.List.{length-replicate, length-append}
use Rattle.byteorder.specs.Numbers.{length-bytes_low_first}
use Rattle.wire.specs.Written.{le, zeros}

pub length-le : (len n : ℕ) → length (le len n) ≡ len
unfolding le
length-le len n = length-bytes_low_first 0 len n

pub length-zeros : (n : ℕ) → length (zeros n) ≡ n
unfolding zeros
length-zeros n = length-replicate {A = ℕ} n 0

pub length-cat : (a b : List ℕ) → length (a ++ b) ≡ length a + length b
length-cat a b = length-append a b

pub cat_assoc : (a b c : List ℕ) → (a ++ b) ++ c ≡ a ++ (b ++ c)
cat_assoc a b c = append_assoc a b c

pub cat_nil : (a : List ℕ) → a ++ [] ≡ a
cat_nil a = append-nil a

-- one byte per unit
pub whole : (n : ℕ) → n / 1 ≡ n
whole n = omega arith

pub ruleset lengths = (length-le, length-zeros, length-cat, cat_assoc, cat_nil, whole)
