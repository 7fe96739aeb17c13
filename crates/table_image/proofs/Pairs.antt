-- A relation between each element of a list and all later ones, as a loop establishes it.
use Rattle.std.proofs.Common.{ℕ, ◌+◌, ◌-◌, ◌<◌, ◌≡◌, List, length, get_or, take, drop, sym, ap, ◌∙◌, subst, inl, inr, arith, length-drop}
use Rattle.std.specs.Prelude.{All, AllPairs}
use Rattle.std.proofs.lemmas.Bool.{cases_eq}
use Rattle.std.proofs.lemmas.List.{get_or_default, get_or-drop, take_all}

-- the elements from index i on
pub slice_from : {A : Type 0} (xs : List A) (i : ℕ) → take (length xs - i) (drop i xs) ≡ drop i xs
slice_from xs i = take_all (length xs - i) (drop i xs) (omega (arith, length-drop i xs))

-- each of the first i elements is related to all later ones
pub record PairsBelow {A : Type 0} (R : A → A → Type 0) (xs : List A) (i : ℕ) : Type 0 where
  pub below : (j k : ℕ) (d : A) → j < i → j < k → k < length xs → R (get_or xs j d) (get_or xs k d)

pub pairs_below-none : {A : Type 0} (R : A → A → Type 0) (xs : List A) → PairsBelow R xs 0
pairs_below-none R xs = record { below = λ j k d before. absurd (omega arith) }

after : {A : Type 0} (xs : List A) (i k : ℕ) (d : A) → i < k → get_or (drop (i + 1) xs) (k - (i + 1)) d ≡ get_or xs k d
after {A} xs i k d before =
    let there : (i + 1) + (k - (i + 1)) ≡ k = omega arith in
    get_or-drop {A = A} (i + 1) xs (k - (i + 1)) d ∙ ap (λ (m : ℕ). get_or xs m d) there

pub pairs_below-more : {A : Type 0} (R : A → A → Type 0) (xs : List A) (i : ℕ) (x : A) → i < length xs → x ≡ get_or xs i x
    → All (R x) (drop (i + 1) xs) → PairsBelow R xs i → PairsBelow R xs (i + 1)
pairs_below-more {A} R xs i x within read here before = record {
  below = λ j k d first second last. elim (cases_eq j i) [
    | inl e ↦
        let later : i < k = omega arith in
        let near : k - (i + 1) < length (drop (i + 1) xs) = omega (arith, length-drop (i + 1) xs) in
        let other : R x (get_or xs k d) = subst (λ (w : A). R x w) (after xs i k d later) (here (k - (i + 1)) d near) in
        subst (λ (w : A). R w (get_or xs k d)) (read ∙ (get_or_default xs i x d within ∙ ap (λ (m : ℕ). get_or xs m d) (sym e))) other
    | inr ne ↦ before.below j k d (omega arith) second last
  ];
}

pub pairs_below-all : {A : Type 0} (R : A → A → Type 0) (xs : List A) (i : ℕ) → i ≡ length xs → PairsBelow R xs i → AllPairs R xs
pairs_below-all R xs i all before j k d first last = before.below j k d (omega arith) first last

-- from all pairs, those of one element with the later elements
pub pairs_after : {A : Type 0} (R : A → A → Type 0) (xs : List A) (i : ℕ) (x : A) → i < length xs → x ≡ get_or xs i x → AllPairs R xs → All (R x) (drop (i + 1) xs)
pairs_after {A} R xs i x within read pairs k d last =
    let far : (i + 1) + k < length xs = omega (arith, length-drop (i + 1) xs, last) in
    subst (λ (w : A). R w (get_or (drop (i + 1) xs) k d)) (sym (read ∙ get_or_default xs i x d within))
    (subst (λ (w : A). R (get_or xs i d) w) (sym (get_or-drop {A = A} (i + 1) xs k d)) (pairs i ((i + 1) + k) d (omega arith) far))
