-- The words of an array that is taken apart, followed by other bytes.
use Rattle.std.proofs.Common.{◌≡◌, ℕ, zero, suc, ◌+◌, List, [], ◌++◌, length, get_or, drop, ap, ◌∙◌, append_assoc, arith}
use Rattle.std.proofs.Math.Seq.{drop-cons}
use Rattle.std.proofs.Math.ListN.{drop_of_length-le}
use Rattle.wire.specs.Written.{joined}

-- that many of the words, one by one from an index on, and then other bytes
abbrev pub one_by_one : ℕ → ℕ → List (List ℕ) → List ℕ → List ℕ
one_by_one zero k words rest = rest
one_by_one (suc n) k words rest = get_or words k [] ++ one_by_one n (suc k) words rest

from_place : (n k : ℕ) (words : List (List ℕ)) (rest : List ℕ) → length words ≡ k + n → joined (drop k words) ++ rest ≡ one_by_one n k words rest
from_place zero k words rest len = ap (λ ws. joined ws ++ rest) (drop_of_length-le words (omega (arith, len)))
from_place (suc n) k words rest len =
    ap (λ ws. joined ws ++ rest) (drop-cons words k [] (omega (arith, len)))
    ∙ (append_assoc (get_or words k []) (joined (drop (suc k) words)) rest
    ∙ ap (λ z. get_or words k [] ++ z) (from_place n (suc k) words rest (omega (arith, len))))

pub joined_on : (n : ℕ) (words : List (List ℕ)) (rest : List ℕ) → length words ≡ n → joined words ++ rest ≡ one_by_one n 0 words rest
joined_on n words rest len = from_place n 0 words rest (omega (arith, len))
