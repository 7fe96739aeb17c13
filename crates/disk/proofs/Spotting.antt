-- What the spots of a list say of each other.
use Rattle.std.proofs.Common.{ℕ, ◌≡◌, ◌<◌, ◌≤◌, ◌+◌, ◌==◌, true, false, suc, zero, length, get_or, drop, drop-cons, add-one, List, [], ◌∷◌, Some, None, refl, sym, ap, ◌∙◌, subst, arith, inl, inr}
use Rattle.std.proofs.lemmas.Bool.{cond-true, cond-false, cases_eq, eq-eqb, eqb-true, cases_Bool}
use Rattle.std.proofs.lemmas.List.{drop_all}
use Rattle.std.proofs.lemmas.Option.{none-some, slice_get-get_or, get_or_from_slice_get}
use Rattle.std.proofs.Math.ListN.{get_or-map, length-map}
use Rattle.paths.specs.Prefixes.{Names}
use Rattle.backing.specs.declared.entries.TreeEntry.{TreeEntry}
use Rattle.backing.specs.Tree.{Tree}
use Rattle.backing.specs.Entries.{look}
use Rattle.backing.proofs.Looking.{look_at, look-drop_more}
use Rattle.disk.specs.declared.spot.Spot.{Spot}
use Rattle.disk.specs.Spots.{item_of, entry_of, entries_of, tree_of, path_of, IsNumbered, IsLawful, IsSpotAt, IsSpot}
use Rattle.disk.specs.ReachedLemmas.{tree_of_entries}

-- the test for equal numbers
pub same_number : (a b : ℕ) → a ≡ b → (a == b) ≡ true
same_number a b e = eq-eqb a b e

pub other_number : (a b : ℕ) → (a ≡ b → ⊥) → (a == b) ≡ false
other_number a b ne = elim (cases_Bool (a == b)) [
  | inl h ↦ absurd (ne (eqb-true a b h))
  | inr h ↦ h
]

pub path_same : (x : Spot) (spots : List Spot) (n : ℕ) → x.number ≡ n → path_of (x ∷ spots) n ≡ Some x.path
path_same x spots n e = cond-true (x.number == n) (Some x.path) (path_of spots n) (same_number x.number n e)

pub path_other : (x : Spot) (spots : List Spot) (n : ℕ) → (x.number ≡ n → ⊥) → path_of (x ∷ spots) n ≡ path_of spots n
path_other x spots n ne = cond-false (x.number == n) (Some x.path) (path_of spots n) (other_number x.number n ne)

-- a spot of the list is found by its number
pub path_found : (spots : List Spot) (i : ℕ) (d : Spot) → i < length spots → path_of spots (get_or spots i d).number ≡ None → ⊥
path_found [] i d within h = absurd (omega arith)
path_found (x ∷ spots) zero d within h = none-some x.path (sym h ∙ path_same x spots x.number refl)
path_found (x ∷ spots) (suc i) d within h = elim (cases_eq x.number (get_or spots i d).number) [
  | inl e ↦ none-some x.path (sym h ∙ path_same x spots (get_or spots i d).number e)
  | inr ne ↦ path_found spots i d (omega arith) (sym (path_other x spots (get_or spots i d).number ne) ∙ h)
]

pub path_at : (spots : List Spot) (i : ℕ) (d : Spot) → IsNumbered spots → i < length spots → path_of spots (get_or spots i d).number ≡ Some (get_or spots i d).path
path_at [] i d apart within = absurd (omega arith)
path_at (x ∷ spots) zero d apart within = path_same x spots x.number refl
path_at (x ∷ spots) (suc i) d apart within = elim (cases_eq x.number (get_or spots i d).number) [
  | inl e ↦ absurd (path_found spots i d (omega arith) (subst (λ (n : ℕ). path_of spots n ≡ None) e apart.0))
  | inr ne ↦ path_other x spots (get_or spots i d).number ne ∙ path_at spots i d apart.1 (omega arith)
]

pub path-drop_found : (spots : List Spot) (n i : ℕ) (d : Spot) → i < length spots → (get_or spots i d).number ≡ n → path_of (drop i spots) n ≡ Some (get_or spots i d).path
path-drop_found spots n i d within same = rw (drop-cons spots i d within) (path_same (get_or spots i d) (drop (suc i) spots) n same)

pub path-drop_more : (spots : List Spot) (n i : ℕ) (d : Spot) → i < length spots → ((get_or spots i d).number ≡ n → ⊥) → path_of (drop i spots) n ≡ path_of (drop (i + 1) spots) n
path-drop_more spots n i d within ne = rw (add-one, drop-cons spots i d within) (path_other (get_or spots i d) (drop (suc i) spots) n ne)

-- each spot is the only one of its path and its number
pub spot_at : (spots : List Spot) (i : ℕ) (d : Spot) → IsLawful spots → i < length spots → IsSpotAt spots (get_or spots i d).path i
spot_at spots i d lawful within =
    let it = get_or spots i d in
    let es = entries_of spots in
    let within' : i < length es = omega (arith, length-map spots entry_of) in
    let is : get_or es i (entry_of d) ≡ entry_of it = get_or-map entry_of spots i d in
    let found : look es (get_or es i (entry_of d)).path ≡ Some (get_or es i (entry_of d)).item = look_at es i (entry_of d) lawful.distinct within' in
    record {
      within = within;
      spot = it;
      is = slice_get-get_or spots i d within;
      path = refl;
      stands = ap (λ (at : Tree). at it.path) (tree_of_entries spots lawful.tree) ∙ subst (λ (e : TreeEntry). look es e.path ≡ Some e.item) is found;
      leads = path_at spots i d lawful.numbered within;
    }

pub item_at : (spots : List Spot) (p : Names) → IsLawful spots → tree_of spots p ≡ look (entries_of spots) p
item_at spots p lawful = ap (λ (at : Tree). at p) (tree_of_entries spots lawful.tree)

-- behind a spot of another path
pub item-drop_more : (spots : List Spot) (p : Names) (i : ℕ) (d : Spot) → i < length spots → ((get_or spots i d).path ≡ p → ⊥) → look (drop i (entries_of spots)) p ≡ look (drop (i + 1) (entries_of spots)) p
item-drop_more spots p i d within ne =
    let is : get_or (entries_of spots) i (entry_of d) ≡ entry_of (get_or spots i d) = get_or-map entry_of spots i d in
    look-drop_more (entries_of spots) p i (entry_of d) (omega (arith, length-map spots entry_of)) (λ e. ne (ap (λ (x : TreeEntry). x.path) (sym is) ∙ e))

pub item-drop_all : (spots : List Spot) (p : Names) (i : ℕ) → length spots ≤ i → look (drop i (entries_of spots)) p ≡ None
item-drop_all spots p i all = ap (λ (es : List TreeEntry). look es p) (drop_all i (entries_of spots) (omega (arith, length-map spots entry_of)))

-- the spot of that index is the one that was read there
pub content_at : (spots : List Spot) (p : Names) (i : ℕ) (x : Spot) → IsSpotAt spots p i → x ≡ get_or spots i x → tree_of spots p ≡ Some (item_of x.content)
content_at spots p i x it is =
    let same : it.spot ≡ x = sym (is ∙ get_or_from_slice_get spots i it.spot x it.is) in
    it.stands ∙ ap (λ (s : Spot). Some (item_of s.content)) same

pub spot_is : (spots : List Spot) (p : Names) (i : ℕ) (x : Spot) → IsSpotAt spots p i → x ≡ get_or spots i x → IsSpot spots p x
spot_is spots p i x it is =
    let same : it.spot ≡ x = sym (is ∙ get_or_from_slice_get spots i it.spot x it.is) in
    subst (λ (s : Spot). IsSpot spots p s) same (record { path = it.path; stands = it.stands; leads = it.leads })
