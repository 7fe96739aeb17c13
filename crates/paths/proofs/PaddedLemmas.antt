-- A short name as it is stored.
use Rattle.std.proofs.Common.{ℕ, ◌≡◌, ◌≤◌, ◌+◌, ◌-◌, min, List, ◌++◌, length, drop, take, replicate, sym, ap, ◌∙◌, arith, inl, inr}
use Rattle.std.proofs.Math.Seq.{take-append_seam, take-append-add, take-length}
use Rattle.std.proofs.lemmas.Bool.{cases_lt}
use Rattle.std.proofs.lemmas.List.{append-nil, drop-drop, drop-replicate, drop-take, length-drop, take-append-drop, take-append-le, take-replicate}
use Rattle.paths.specs.Padded.{padded}

-- bytes that were copied into zeros
pub name_put : (name : List ℕ) → name ++ drop (length name) (replicate 22 0) ≡ padded name
unfolding padded
name_put name = ap (λ (more : List ℕ). name ++ more) (drop-replicate (length name) 22 0)

pub name_padded : (name : List ℕ) → take (length name) (padded name) ≡ name
unfolding padded
name_padded name = take-append_seam name (replicate (22 - length name) 0)

take_all : (n : ℕ) (xs : List ℕ) → length xs ≡ n → take n xs ≡ xs
take_all n xs e = ap (λ (m : ℕ). take m xs) (sym e) ∙ take-length xs

-- 22 bytes are those of three words, of which the last two overlap
pub in_words : (bytes : List ℕ) → length bytes ≡ 22 → take 8 (drop 0 bytes) ++ (take 8 (drop 8 bytes) ++ drop 2 (take 8 (drop 14 bytes))) ≡ bytes
in_words bytes long =
    let six : length (drop 16 bytes) ≡ 6 = length-drop 16 bytes ∙ omega (arith, long) in
    let last : drop 2 (take 8 (drop 14 bytes)) ≡ drop 16 bytes =
    drop-take 2 6 (drop 14 bytes) ∙ ap (λ (xs : List ℕ). take 6 xs) (drop-drop 2 14 bytes) ∙ take_all 6 (drop 16 bytes) six in
    let more : take 8 (drop 8 bytes) ++ drop 2 (take 8 (drop 14 bytes)) ≡ drop 8 bytes =
    ap (λ (xs : List ℕ). take 8 (drop 8 bytes) ++ xs) (last ∙ sym (drop-drop 8 8 bytes)) ∙ take-append-drop 8 (drop 8 bytes) in
    ap (λ (xs : List ℕ). take 8 bytes ++ xs) more ∙ take-append-drop 8 bytes

abbrev Words : List ℕ → List ℕ → List ℕ → List ℕ
Words a b c = a ++ (b ++ drop 2 c)

-- equal words, equal bytes
pub same_words : (bytes others : List ℕ) → length bytes ≡ 22 → length others ≡ 22
    → take 8 (drop 0 bytes) ≡ take 8 (drop 0 others) → take 8 (drop 8 bytes) ≡ take 8 (drop 8 others) → take 8 (drop 14 bytes) ≡ take 8 (drop 14 others) → bytes ≡ others
same_words bytes others long long' one two three =
    sym (in_words bytes long)
    ∙ ap (λ (a : List ℕ). Words a (take 8 (drop 8 bytes)) (take 8 (drop 14 bytes))) one
    ∙ ap (λ (b : List ℕ). Words (take 8 (drop 0 others)) b (take 8 (drop 14 bytes))) two
    ∙ ap (λ (c : List ℕ). Words (take 8 (drop 0 others)) (take 8 (drop 8 others)) c) three
    ∙ in_words others long'

-- the first eight bytes where there are no more
few_first : (name : List ℕ) (zeros : ℕ) → length name ≤ 8 → 8 - length name ≤ zeros → take 8 (name ++ replicate zeros 0) ≡ name ++ replicate (8 - length name) 0
few_first name zeros few many =
    let n = length name in
    let whole : 8 ≡ n + (8 - n) = omega (arith, few) in
    ap (λ (k : ℕ). take k (name ++ replicate zeros 0)) whole ∙ take-append-add name (replicate zeros 0) (8 - n) ∙ ap (λ (q : List ℕ). name ++ q) (take-replicate (8 - n) zeros 0 many)

-- they are the same, however many zeros come after a name
pub eight_first : (name : List ℕ) (zeros : ℕ) → 8 ≤ length name + zeros → take 8 (name ++ replicate zeros 0) ≡ take 8 (name ++ replicate 8 0)
eight_first name zeros many = elim (cases_lt 8 (length name)) [
  | inl long ↦ take-append-le 8 name (replicate zeros 0) (omega (arith, long)) ∙ sym (take-append-le 8 name (replicate 8 0) (omega (arith, long)))
  | inr few ↦ few_first name zeros few (omega (arith, many)) ∙ sym (few_first name 8 few (omega arith))
]

pub padded_first : (name : List ℕ) → length name ≤ 22 → take 8 (padded name) ≡ take 8 (name ++ replicate 8 0)
unfolding padded
padded_first name short = eight_first name (22 - length name) (omega (arith, short))

-- the first eight bytes, or all, that were copied into zeros
pub copied_first : (bytes : List ℕ) (n : ℕ) → n ≡ min (length bytes) 8 → take n bytes ++ drop n (replicate 8 0) ≡ take 8 (bytes ++ replicate 8 0)
copied_first bytes n is = elim (cases_lt 8 (length bytes)) [
  | inl long ↦
      let eight : n ≡ 8 = omega (arith, is, long) in
      ap (λ (k : ℕ). take k bytes ++ drop k (replicate {A = ℕ} 8 0)) eight ∙ (append-nil (take 8 bytes) ∙ sym (take-append-le 8 bytes (replicate 8 0) (omega (arith, long))))
  | inr few ↦
      let all : n ≡ length bytes = omega (arith, is, few) in
      ap (λ (k : ℕ). take k bytes ++ drop k (replicate {A = ℕ} 8 0)) all
      ∙ (ap (λ (q : List ℕ). q ++ drop (length bytes) (replicate {A = ℕ} 8 0)) (take-length bytes)
      ∙ (ap (λ (q : List ℕ). bytes ++ q) (drop-replicate (length bytes) 8 0) ∙ sym (few_first bytes 8 few (omega arith))))
]
