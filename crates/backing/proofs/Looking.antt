-- What is at a path after an entry was added, changed or removed.
use Rattle.std.proofs.Common.{ℕ, ◌+◌, ◌<◌, ◌≡◌, suc, zero, true, List, [], ◌∷◌, ◌++◌, Option, Some, None, length, get_or, set, drop, drop-cons, add-one, refl, sym, ap, ◌∙◌, subst, arith, rules, IsSome, IfSome, is_some, inl, inr}
use Rattle.std.specs.List.{remove}
use Rattle.std.proofs.lemmas.Bool.{cond-true, cond-false, false≢true}
use Rattle.std.proofs.lemmas.Option.{none-some}
use mathlib.Core.Path.{fun_ext}
use Rattle.paths.specs.Prefixes.{Name, Names}
use Rattle.backing.specs.declared.entries.Item.{Item}
use Rattle.backing.specs.declared.entries.TreeEntry.{TreeEntry}
use Rattle.backing.specs.Tree.{Tree, HasNames, IsBare, is_path, with_item, without}
use Rattle.backing.specs.Entries.{look, tree_of, IsDistinct}
use Rattle.backing.proofs.PathLemmas.{is_path-same, is_path-no, same_path}

-- a look-up at another path and at the same one
pub with_other : (at : Tree) (p : Names) (item : Item) (q : Names) → (p ≡ q → ⊥) → with_item at p item q ≡ at q
with_other at p item q ne = cond-false (is_path p q) (Some item) (at q) (is_path-no p q ne)

pub with_same : (at : Tree) (p : Names) (item : Item) → with_item at p item p ≡ Some item
with_same at p item = cond-true (is_path p p) (Some item) (at p) (is_path-same p)

pub without_other : (at : Tree) (p q : Names) → (p ≡ q → ⊥) → without at p q ≡ at q
without_other at p q ne = cond-false (is_path p q) None (at q) (is_path-no p q ne)

pub without_same : (at : Tree) (p : Names) → without at p p ≡ None
without_same at p = cond-true (is_path p p) None (at p) (is_path-same p)

-- two changes at different paths, in either order
with_swap : (at : Tree) (p q : Names) (x y : Item) → (p ≡ q → ⊥) → with_item (with_item at p x) q y ≡ with_item (with_item at q y) p x
with_swap at p q x y ne = fun_ext (λ r. elim (same_path q r) [
  | inl e ↦
      let one : with_item (with_item at p x) q y r ≡ Some y = subst (λ (s : Names). with_item (with_item at p x) q y s ≡ Some y) e (with_same (with_item at p x) q y) in
      let two : with_item at q y r ≡ Some y = subst (λ (s : Names). with_item at q y s ≡ Some y) e (with_same at q y) in
      one ∙ sym (with_other (with_item at q y) p x r (λ f. ne (f ∙ sym e)) ∙ two)
  | inr other ↦ with_other (with_item at p x) q y r other ∙ (elim (same_path p r) [
    | inl e ↦
        let one : with_item at p x r ≡ Some x = subst (λ (s : Names). with_item at p x s ≡ Some x) e (with_same at p x) in
        let two : with_item (with_item at q y) p x r ≡ Some x = subst (λ (s : Names). with_item (with_item at q y) p x s ≡ Some x) e (with_same (with_item at q y) p x) in
        one ∙ sym two
    | inr far ↦ with_other at p x r far ∙ sym (with_other (with_item at q y) p x r far ∙ with_other at q y r other)
  ])
])

with_twice : (at : Tree) (p : Names) (x y : Item) → with_item (with_item at p x) p y ≡ with_item at p y
with_twice at p x y = fun_ext (λ r. elim (same_path p r) [
  | inl e ↦
      let one : with_item (with_item at p x) p y r ≡ Some y = subst (λ (s : Names). with_item (with_item at p x) p y s ≡ Some y) e (with_same (with_item at p x) p y) in
      let two : with_item at p y r ≡ Some y = subst (λ (s : Names). with_item at p y s ≡ Some y) e (with_same at p y) in
      one ∙ sym two
  | inr far ↦ with_other (with_item at p x) p y r far ∙ (with_other at p x r far ∙ sym (with_other at p y r far))
])

without_with : (at : Tree) (p : Names) (x : Item) → at p ≡ None → without (with_item at p x) p ≡ at
without_with at p x h = fun_ext (λ r. elim (same_path p r) [
  | inl e ↦ let P : Names → Type 0 = λ s. without (with_item at p x) p s ≡ at s in subst P e (without_same (with_item at p x) p ∙ sym h)
  | inr far ↦ without_other (with_item at p x) p r far ∙ with_other at p x r far
])

without_swap : (at : Tree) (p q : Names) (x : Item) → (p ≡ q → ⊥) → with_item (without at q) p x ≡ without (with_item at p x) q
without_swap at p q x ne = fun_ext (λ r. elim (same_path p r) [
  | inl e ↦
      let one : with_item (without at q) p x r ≡ Some x = subst (λ (s : Names). with_item (without at q) p x s ≡ Some x) e (with_same (without at q) p x) in
      let two : with_item at p x r ≡ Some x = subst (λ (s : Names). with_item at p x s ≡ Some x) e (with_same at p x) in
      one ∙ sym (without_other (with_item at p x) q r (λ f. ne (e ∙ sym f)) ∙ two)
  | inr far ↦ with_other (without at q) p x r far ∙ (elim (same_path q r) [
    | inl e ↦
        let one : without at q r ≡ None = subst (λ (s : Names). without at q s ≡ None) e (without_same at q) in
        let two : without (with_item at p x) q r ≡ None = subst (λ (s : Names). without (with_item at p x) q s ≡ None) e (without_same (with_item at p x) q) in
        one ∙ sym two
    | inr other ↦ without_other at q r other ∙ sym (without_other (with_item at p x) q r other ∙ with_other at p x r far)
  ])
])

-- an entry of the list is found
pub look_some : (es : List TreeEntry) (i : ℕ) (d : TreeEntry) → i < length es → look es (get_or es i d).path ≡ None → ⊥
look_some [] i d within h = absurd (omega arith)
look_some (e ∷ es) zero d within h = none-some e.item (sym h ∙ with_same (look es) e.path e.item)
look_some (e ∷ es) (suc i) d within h = elim (same_path e.path (get_or es i d).path) [
  | inl same ↦ none-some e.item (sym (subst (λ (q : Names). look (e ∷ es) q ≡ None) (sym same) h) ∙ with_same (look es) e.path e.item)
  | inr ne ↦ look_some es i d (omega arith) (sym (with_other (look es) e.path e.item (get_or es i d).path ne) ∙ h)
]

-- if each path comes once, an entry is what its path leads to
pub look_at : (es : List TreeEntry) (i : ℕ) (d : TreeEntry) → IsDistinct es → i < length es → look es (get_or es i d).path ≡ Some (get_or es i d).item
look_at [] i d apart within = absurd (omega arith)
look_at (e ∷ es) zero d apart within = with_same (look es) e.path e.item
look_at (e ∷ es) (suc i) d apart within = elim (same_path e.path (get_or es i d).path) [
  | inl same ↦ absurd (look_some es i d (omega arith) (subst (λ (q : Names). look es q ≡ None) same apart.0))
  | inr ne ↦ with_other (look es) e.path e.item (get_or es i d).path ne ∙ look_at es i d apart.1 (omega arith)
]

-- what is looked for comes after the entries with other paths
pub look-drop_found : (es : List TreeEntry) (q : Names) (i : ℕ) (d : TreeEntry) → i < length es → (get_or es i d).path ≡ q → look (drop i es) q ≡ Some (get_or es i d).item
look-drop_found es q i d within same =
    rw (drop-cons es i d within) (subst (λ (p : Names). with_item (look (drop (suc i) es)) (get_or es i d).path (get_or es i d).item p ≡ Some (get_or es i d).item) same (with_same (look (drop (suc i) es)) (get_or es i d).path (get_or es i d).item))

pub look-drop_more : (es : List TreeEntry) (q : Names) (i : ℕ) (d : TreeEntry) → i < length es → ((get_or es i d).path ≡ q → ⊥) → look (drop i es) q ≡ look (drop (i + 1) es) q
look-drop_more es q i d within ne =
    rw (add-one, drop-cons es i d within) (with_other (look (drop (suc i) es)) (get_or es i d).path (get_or es i d).item q ne)

-- a look-up after a push
pub look-push : (es : List TreeEntry) (e : TreeEntry) → look es e.path ≡ None → look (es ++ e ∷ []) ≡ with_item (look es) e.path e.item
look-push [] e h = refl
look-push (x ∷ es) e h =
    let ne : x.path ≡ e.path → ⊥ = λ same. none-some x.item (sym (subst (λ (q : Names). look (x ∷ es) q ≡ None) (sym same) h) ∙ with_same (look es) x.path x.item) in
    let later : look es e.path ≡ None = sym (with_other (look es) x.path x.item e.path ne) ∙ h in
    ap (λ (at : Tree). with_item at x.path x.item) (look-push es e later) ∙ with_swap (look es) e.path x.path e.item x.item (λ same. ne (sym same))

-- a look-up after a write that keeps the path
pub look-set : (es : List TreeEntry) (i : ℕ) (e d : TreeEntry) → IsDistinct es → i < length es → (get_or es i d).path ≡ e.path → look (set es i e) ≡ with_item (look es) e.path e.item
look-set [] i e d apart within same = absurd (omega arith)
look-set (x ∷ es) zero e d apart within same =
    sym (with_twice (look es) e.path x.item e.item) ∙ ap (λ (q : Names). with_item (with_item (look es) q x.item) e.path e.item) (sym same)
look-set (x ∷ es) (suc i) e d apart within same =
    let ne : e.path ≡ x.path → ⊥ = λ f. look_some es i d (omega arith) (subst (λ (q : Names). look es q ≡ None) (sym (same ∙ f)) apart.0) in
    ap (λ (at : Tree). with_item at x.path x.item) (look-set es i e d apart.1 (omega arith) same) ∙ with_swap (look es) e.path x.path e.item x.item ne

-- a look-up after a removal
pub look-remove : (es : List TreeEntry) (i : ℕ) (d : TreeEntry) → IsDistinct es → i < length es → look (remove es i) ≡ without (look es) (get_or es i d).path
look-remove [] i d apart within = absurd (omega arith)
look-remove (x ∷ es) zero d apart within = sym (without_with (look es) x.path x.item apart.0)
look-remove (x ∷ es) (suc i) d apart within =
    let ne : x.path ≡ (get_or es i d).path → ⊥ = λ f. look_some es i d (omega arith) (subst (λ (q : Names). look es q ≡ None) f apart.0) in
    ap (λ (at : Tree). with_item at x.path x.item) (look-remove es i d apart.1 (omega arith)) ∙ without_swap (look es) x.path (get_or es i d).path x.item ne

pub IsDistinct-push : (es : List TreeEntry) (e : TreeEntry) → IsDistinct es → look es e.path ≡ None → IsDistinct (es ++ e ∷ [])
IsDistinct-push [] e apart fresh = (refl, tt)
IsDistinct-push (x ∷ es) e apart fresh =
    let ne : x.path ≡ e.path → ⊥ = λ same. none-some x.item (sym (subst (λ (q : Names). look (x ∷ es) q ≡ None) (sym same) fresh) ∙ with_same (look es) x.path x.item) in
    let later : look es e.path ≡ None = sym (with_other (look es) x.path x.item e.path ne) ∙ fresh in
    (ap (λ (at : Tree). at x.path) (look-push es e later) ∙ (with_other (look es) e.path e.item x.path (λ f. ne (sym f)) ∙ apart.0), IsDistinct-push es e apart.1 later)

pub IsDistinct-set : (es : List TreeEntry) (i : ℕ) (e d : TreeEntry) → IsDistinct es → i < length es → (get_or es i d).path ≡ e.path → IsDistinct (set es i e)
IsDistinct-set [] i e d apart within same = absurd (omega arith)
IsDistinct-set (x ∷ es) zero e d apart within same = (subst (λ (q : Names). look es q ≡ None) same apart.0, apart.1)
IsDistinct-set (x ∷ es) (suc i) e d apart within same =
    let ne : e.path ≡ x.path → ⊥ = λ f. look_some es i d (omega arith) (subst (λ (q : Names). look es q ≡ None) (sym (same ∙ f)) apart.0) in
    (ap (λ (at : Tree). at x.path) (look-set es i e d apart.1 (omega arith) same) ∙ (with_other (look es) e.path e.item x.path ne ∙ apart.0), IsDistinct-set es i e d apart.1 (omega arith) same)

pub IsDistinct-remove : (es : List TreeEntry) (i : ℕ) (d : TreeEntry) → IsDistinct es → i < length es → IsDistinct (remove es i)
IsDistinct-remove [] i d apart within = absurd (omega arith)
IsDistinct-remove (x ∷ es) zero d apart within = apart.1
IsDistinct-remove (x ∷ es) (suc i) d apart within =
    let ne : (get_or es i d).path ≡ x.path → ⊥ = λ f. look_some es i d (omega arith) (subst (λ (q : Names). look es q ≡ None) (sym f) apart.0) in
    (ap (λ (at : Tree). at x.path) (look-remove es i d apart.1 (omega arith)) ∙ (without_other (look es) (get_or es i d).path x.path ne ∙ apart.0), IsDistinct-remove es i d apart.1 (omega arith))

-- the tree of a list that has changed below the root
pub tree-same : (es fs : List TreeEntry) (p : Names) → look es p ≡ look fs p → tree_of es p ≡ tree_of fs p
tree-same es fs [] h = refl
tree-same es fs (name ∷ p) h = h

tree-with_at : (es fs : List TreeEntry) (x : Name) (p : Names) (item : Item) → look fs ≡ with_item (look es) (x ∷ p) item → (q : Names) → tree_of fs q ≡ with_item (tree_of es) (x ∷ p) item q
tree-with_at es fs x p item h [] = refl
tree-with_at es fs x p item h (y ∷ q) = ap (λ (at : Tree). at (y ∷ q)) h

pub tree-with : (es fs : List TreeEntry) (p : Names) (item : Item) → (p ≡ [] → ⊥) → look fs ≡ with_item (look es) p item → tree_of fs ≡ with_item (tree_of es) p item
tree-with es fs [] item below h = absurd (below refl)
tree-with es fs (x ∷ p) item below h = fun_ext (λ q. tree-with_at es fs x p item h q)

tree-without_at : (es fs : List TreeEntry) (x : Name) (p : Names) → look fs ≡ without (look es) (x ∷ p) → (q : Names) → tree_of fs q ≡ without (tree_of es) (x ∷ p) q
tree-without_at es fs x p h [] = refl
tree-without_at es fs x p h (y ∷ q) = ap (λ (at : Tree). at (y ∷ q)) h

pub tree-without : (es fs : List TreeEntry) (p : Names) → (p ≡ [] → ⊥) → look fs ≡ without (look es) p → tree_of fs ≡ without (tree_of es) p
tree-without es fs [] below h = absurd (below refl)
tree-without es fs (x ∷ p) below h = fun_ext (λ q. tree-without_at es fs x p h q)

-- a path below the root is looked up in the entries
pub tree-below : (es : List TreeEntry) (p : Names) (name : Name) → tree_of es (p ++ name ∷ []) ≡ look es (p ++ name ∷ [])
tree-below es [] name = refl
tree-below es (x ∷ p) name = refl

pub tree-not_root : (es : List TreeEntry) (p : Names) → (p ≡ [] → ⊥) → tree_of es p ≡ look es p
tree-not_root es [] below = absurd (below refl)
tree-not_root es (x ∷ p) below = refl

-- no entry has the path
pub look_none : (es : List TreeEntry) (q : Names) → ((k : ℕ) (d : TreeEntry) → k < length es → (get_or es k d).path ≡ q → ⊥) → look es q ≡ None
look_none [] q none = refl
look_none (e ∷ es) q none =
    let rest = look_none es q (λ k d within. none (suc k) d (omega arith)) in
    with_other (look es) e.path e.item q (none 0 e (omega arith)) ∙ rest

-- an entry in a folder is one of its names
pub has_names : (es : List TreeEntry) (p : Names) (name : Name) (i : ℕ) (d : TreeEntry) → IsDistinct es → i < length es → (get_or es i d).path ≡ p ++ name ∷ [] → HasNames (tree_of es) p
has_names es p name i d apart within path =
    let stands : tree_of es (p ++ name ∷ []) ≡ Some (get_or es i d).item = tree-below es p name ∙ subst (λ (q : Names). look es q ≡ Some (get_or es i d).item) path (look_at es i d apart within) in
    record { name = name; stands = subst (λ (o : Option Item). IsSome o) (sym stands) (search rules) }

pub is_bare : (es : List TreeEntry) (p : Names) → ((k : ℕ) (d : TreeEntry) (name : Name) → k < length es → (get_or es k d).path ≡ p ++ name ∷ [] → ⊥) → IsBare (tree_of es) p
is_bare es p none = record { none = λ name. tree-below es p name ∙ look_none es (p ++ name ∷ []) (λ k d within. none k d name within) }

-- what a clause says about the value that a test found
pub found_one : {A : Type 0} (P : A → Type 0) (o : Option A) → is_some o ≡ true → IfSome o P → (x : A) × P x
found_one P None h p = absurd (false≢true h)
found_one P (Some x) h p = (x, p)
