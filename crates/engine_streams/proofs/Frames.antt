-- A request that is returned in pieces.
use Rattle.std.proofs.Common.{ℕ, ◌≡◌, ◌≤◌, ◌+◌, ◌-◌, List, ◌++◌, length, take, drop, ap, sym, subst, ◌∙◌, arith}
use Rattle.std.proofs.Math.Seq.{take-add, take-append_seam}
use Rattle.std.proofs.lemmas.List.{drop-drop}

-- the first piece, and what is kept afterwards
pub first_and_rest : (bytes : List ℕ) (count whole : ℕ) → count ≤ whole → take whole bytes ≡ take count bytes ++ take (whole - count) (drop count bytes)
first_and_rest bytes count whole within =
    let n : whole ≡ count + (whole - count) = omega (arith, within) in
    ap (λ (k : ℕ). take k bytes) n ∙ take-add count (whole - count) bytes

-- the first bytes of a buffer to which as many were copied
pub copied_first : (copied rest : List ℕ) (count : ℕ) → length copied ≡ count → take count (copied ++ rest) ≡ copied
copied_first copied rest count len = subst (λ (n : ℕ). take n (copied ++ rest) ≡ copied) len (take-append_seam copied rest)

pub handed : (frame copied rest : List ℕ) (from until count : ℕ) → from ≤ until → count ≤ until - from → length copied ≡ count → copied ≡ take (from + count - from) (drop from frame)
    → take (until - from) (drop from frame) ≡ take count (copied ++ rest) ++ take (until - (from + count)) (drop (from + count) frame)
handed frame copied rest from until count order within len is =
    let n : from + count - from ≡ count = omega arith in
    let m : until - from - count ≡ until - (from + count) = omega arith in
    let first : take count (drop from frame) ≡ take count (copied ++ rest) = sym (copied_first copied rest count len ∙ is ∙ ap (λ (k : ℕ). take k (drop from frame)) n) in
    let later : take (until - from - count) (drop count (drop from frame)) ≡ take (until - (from + count)) (drop (from + count) frame) =
    ap (λ (k : ℕ). take k (drop count (drop from frame))) m ∙ ap (λ (xs : List ℕ). take (until - (from + count)) xs) (drop-drop count from frame) in
    first_and_rest (drop from frame) count (until - from) within
    ∙ (ap (λ (xs : List ℕ). xs ++ take (until - from - count) (drop count (drop from frame))) first ∙ ap (λ (ys : List ℕ). take count (copied ++ rest) ++ ys) later)
