-- The names in a folder, in another order.
use Rattle.std.proofs.Common.{◌≡◌, ◌||◌, Bool, true, false, List, [], ◌∷◌, Result, Ok, Err, IfOk, refl, sym, ap, ◌∙◌, inl, inr}
use Rattle.std.specs.List.{AllByRecursion, IsDistinct, list_any}
use Rattle.std.specs.List.Sorted.{IsPermutation}
use Rattle.std.proofs.lemmas.Bool.{cases_Bool, true≢false}
use Rattle.std.proofs.lemmas.List.Sorted.{list_any-IsPermutation}
use Rattle.std.proofs.lemmas.Map.Keys.{IsDistinct-cons, IsDistinct-head, IsDistinct-tail, IsDistinct-IsPermutation}
use Rattle.paths.specs.Prefixes.{Name, Names, is_name}
use Rattle.paths.proofs.PrefixLemmas.{is_name-true, is_name-yes, is_name-no}
use Rattle.backing.specs.Tree.{Tree}
use Rattle.disk.specs.Answers.{ListsNames, is_among, EachOnce}
use Rattle.disk_folder.specs.declared.listing.SeenName.{SeenName}
use Rattle.disk_folder.specs.Listed.{AreSeen}

-- whether the second is the first
abbrev comes : Name → Name → Bool
comes one other = is_name other one

comes_flips : (x y : Name) → comes x y ≡ comes y x
comes_flips x y = elim (cases_Bool (is_name y x)) [
  | inl e ↦ e ∙ sym (is_name-yes x y (sym (is_name-true y x e)))
  | inr e ↦ e ∙ sym (is_name-no x y (λ f. true≢false (sym (is_name-yes y x (sym f)) ∙ e)))
]

among_any : (names : List Name) (name : Name) → is_among names name ≡ list_any (comes name) names
among_any [] name = refl
among_any (other ∷ names) name = ap (λ (b : Bool). is_name other name || b) (among_any names name)

or_none : (a b : Bool) → a || b ≡ false → (a ≡ false) × (b ≡ false)
or_none true b e = absurd (true≢false e)
or_none false b e = (refl, e)

apart_from_absent : (names : List Name) (name : Name) → is_among names name ≡ false → AllByRecursion (λ (other : Name). comes name other ≡ false) names
apart_from_absent [] name none = tt
apart_from_absent (other ∷ names) name none =
    let both = or_none (is_name other name) (is_among names name) none in
    (both.0, apart_from_absent names name both.1)

absent_from_apart : (names : List Name) (name : Name) → AllByRecursion (λ (other : Name). comes name other ≡ false) names → is_among names name ≡ false
absent_from_apart [] name apart = refl
absent_from_apart (other ∷ names) name apart = ap (λ (b : Bool). b || is_among names name) apart.0 ∙ absent_from_apart names name apart.1

distinct_from_once : (names : List Name) → EachOnce names → IsDistinct comes names
unfolding IsDistinct
distinct_from_once [] once = tt
distinct_from_once (name ∷ names) once = IsDistinct-cons comes name names (apart_from_absent names name once.0) (distinct_from_once names once.1)

once_from_distinct : (names : List Name) → IsDistinct comes names → EachOnce names
once_from_distinct [] apart = tt
once_from_distinct (name ∷ names) apart = (absent_from_apart names name (IsDistinct-head comes name names apart), once_from_distinct names (IsDistinct-tail comes name names apart))

-- they are the names in the folder in any order
pub lists_sorted : (at : Tree) (p : Names) (names sorted : List Name) → IsPermutation names sorted → ListsNames at p names → ListsNames at p sorted
lists_sorted at p names sorted moves lists = record {
  stands = λ name. among_any sorted name ∙ (sym (list_any-IsPermutation (comes name) names sorted moves) ∙ (sym (among_any names name) ∙ lists.stands name));
  once = once_from_distinct sorted (IsDistinct-IsPermutation comes comes_flips names sorted moves (distinct_from_once names lists.once));
}

-- what stands at each of them is what the folder lists
pub listed_in : {A E : Type 0} (at : Tree) (p : Names) (names : List Name) (result : Result A E) (items : A → List SeenName) → ListsNames at p names → (ListsNames at p names → IfOk result (λ seen. AreSeen at p names (items seen))) → IfOk result (λ seen. (names : List Name) × ListsNames at p names × AreSeen at p names (items seen))
listed_in at p names (Ok seen) items lists are = (names, lists, are lists)
listed_in at p names (Err error) items lists are = tt
