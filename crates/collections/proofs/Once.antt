-- A look-up has only one sum.
use Rattle.std.proofs.Common.{ℕ, ◌+◌, ◌-◌, ◌<◌, ◌≤◌, ◌≡◌, ◌≢◌, List, [], ◌∷◌, Option, AllPairs, Contains, length, get_or, sym, ap, ◌∙◌, subst, inl, inr, arith}
use Rattle.std.specs.Prelude.{option_map, sum_by, unwrap_or}
use Rattle.std.specs.List.{remove}
use Rattle.std.proofs.lemmas.Bool.{cases_eq, cases_lt}
use Rattle.std.proofs.lemmas.List.{get_or_default}
use Rattle.std.proofs.lemmas.List.Edits.{get_or-remove_above, get_or-remove_below, length-remove}
use Rattle.std.proofs.lemmas.List.Sums.{sum_by-cons, sum_by-remove}
use Rattle.collections.specs.Sum.{IsSum}
use Rattle.collections.proofs.Members.{apart_first, apart_tail, first_in, later_in}

-- what is in a list is in it without another element
in_remove : (ys : List ℕ) (i x y : ℕ) → i < length ys → get_or ys i x ≡ x → x ≢ y → Contains ys y → Contains (remove ys i) y
in_remove ys i x y inside e ne (k, within, is) =
    let shorter = length-remove ys i inside in
    elim (cases_lt k i) [
      | inl before ↦ (k, omega arith, get_or-remove_below ys i y k before inside ∙ is)
      | inr later ↦ elim (cases_eq k i) [
        | inl same ↦ absurd (ne (sym e ∙ (get_or_default ys i x y inside ∙ (ap (λ j. get_or ys j y) (sym same) ∙ is))))
        | inr other ↦
            let back : k - 1 + 1 ≡ k = omega arith in
            (k - 1, omega arith, get_or-remove_above ys i y (k - 1) (omega arith) inside ∙ (ap (λ j. get_or ys j y) back ∙ is))
      ]
    ]

-- distinct keys weigh no more than a list that contains them all
sum_within : (f : ℕ → ℕ) (xs ys : List ℕ) → AllPairs (λ j k. j ≢ k) xs → ((y : ℕ) → Contains xs y → Contains ys y) → sum_by f xs ≤ sum_by f ys
sum_within f [] ys apart within = omega arith
sum_within f (x ∷ xs) ys apart within =
    let (i, inside, e) = within x (first_in x xs) in
    let rest : sum_by f xs ≤ sum_by f (remove ys i) = sum_within f xs (remove ys i) (apart_tail x xs apart) (λ y h. in_remove ys i x y inside e (apart_first x xs apart y h) (within y (later_in x xs y h))) in
    let whole : sum_by f (remove ys i) + f x ≡ sum_by f ys = subst (λ z. sum_by f (remove ys i) + f z ≡ sum_by f ys) e (sum_by-remove f ys i x inside) in
    let more = sum_by-cons f x xs in
    omega arith

pub sum_once : {X : Type 0} → (at : ℕ → Option X) (weight : X → ℕ) (s t : ℕ) → IsSum at weight s → IsSum at weight t → s ≡ t
sum_once at weight s t a b =
    let f : ℕ → ℕ = λ k. unwrap_or (option_map weight (at k)) 0 in
    let one : sum_by f a.keys ≤ sum_by f b.keys = sum_within f a.keys b.keys a.apart (λ k h. (b.exact k).1 ((a.exact k).0 h)) in
    let two : sum_by f b.keys ≤ sum_by f a.keys = sum_within f b.keys a.keys b.apart (λ k h. (a.exact k).1 ((b.exact k).0 h)) in
    let e = a.total_is in
    let g = b.total_is in
    omega arith
