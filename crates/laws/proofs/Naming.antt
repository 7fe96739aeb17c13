-- What a change of names or of an object does to the tree by paths, and that no object gets a second name by it.
use Rattle.std.proofs.Common.{ℕ, ◌≡◌, ◌==◌, Bool, true, false, cond, length, drop, ◌++◌, Option, Some, None, refl, sym, ap, ◌∙◌, subst, ◌⊎◌, inl, inr}
use mathlib.Core.Path.{fun_ext}
use Rattle.std.proofs.lemmas.Bool.{cond-true, cond-false, cases_Bool, eq-eqb, eqb-true}
use Rattle.std.proofs.lemmas.Option.{none-some, same_Some}
use Rattle.paths.specs.Prefixes.{Names, is_prefix}
use Rattle.paths.proofs.PrefixLemmas.{is_prefix-append, drop-append}
use Rattle.backing.specs.declared.entries.Item.{Item}
use Rattle.backing.specs.Tree.{Tree, is_path, with_item, without, moved}
use Rattle.disk.specs.Answers.{with_further}
use Rattle.backing.proofs.PathLemmas.{is_path-same, is_path-no, same_path}
use Rattle.backing.proofs.Looking.{with_same, with_other, without_same, without_other}
use Rattle.backing.proofs.Relocating.{moved_below, moved_gone, moved_else, no_prefix, three_ways}
use Rattle.laws.specs.Objects.{Named, HasName, HasOneName, what_is, with_name, without_name, with_names_moved, with_object}

-- a tree of names and items
abbrev pub tree_of : Named → (ℕ → Option Item) → Tree
tree_of at items p = what_is items (at p)

-- an equal object
other_number : (m n : ℕ) → (m ≡ n → ⊥) → (m == n) ≡ false
other_number m n ne = elim (cases_Bool (m == n)) [
  | inl h ↦ absurd (ne (eqb-true m n h))
  | inr h ↦ h
]

pub with_object-same : (items : ℕ → Option Item) (object : ℕ) (item : Item) → with_object items object item object ≡ Some item
with_object-same items object item = cond-true (object == object) (Some item) (items object) (eq-eqb object object refl)

-- what is at a path where another object stands, or none
what_other : (items : ℕ → Option Item) (object : ℕ) (item : Item) (found : Option ℕ) → (found ≡ Some object → ⊥) → what_is (with_object items object item) found ≡ what_is items found
what_other items object item None ne = refl
what_other items object item (Some n) ne = cond-false (object == n) (Some item) (items n) (other_number object n (λ e. ne (ap (λ (k : ℕ). Some k) (sym e))))

what_same : (items : ℕ → Option Item) (object : ℕ) (item : Item) (found : Option ℕ) → found ≡ Some object → what_is (with_object items object item) found ≡ Some item
what_same items object item found e = ap (λ (o : Option ℕ). what_is (with_object items object item) o) e ∙ with_object-same items object item

pub with_name-same : (at : Named) (p : Names) (object : ℕ) → with_name at p object p ≡ Some object
with_name-same at p object = cond-true (is_path p p) (Some object) (at p) (is_path-same p)

pub with_name-other : (at : Named) (p : Names) (object : ℕ) (q : Names) → (p ≡ q → ⊥) → with_name at p object q ≡ at q
with_name-other at p object q ne = cond-false (is_path p q) (Some object) (at q) (is_path-no p q ne)

pub without_name-same : (at : Named) (p : Names) → without_name at p p ≡ None
without_name-same at p = cond-true (is_path p p) None (at p) (is_path-same p)

pub without_name-other : (at : Named) (p q : Names) → (p ≡ q → ⊥) → without_name at p q ≡ at q
without_name-other at p q ne = cond-false (is_path p q) None (at q) (is_path-no p q ne)

pub names_below : (at : Named) (s t more : Names) → with_names_moved at s t (t ++ more) ≡ at (s ++ more)
names_below at s t more =
    cond-true (is_prefix t (t ++ more)) (at (s ++ drop (length t) (t ++ more))) (cond (is_prefix s (t ++ more)) None (at (t ++ more))) (is_prefix-append t more)
    ∙ ap (λ (r : Names). at (s ++ r)) (drop-append t more)

pub names_gone : (at : Named) (s t q : Names) → is_prefix t q ≡ false → is_prefix s q ≡ true → with_names_moved at s t q ≡ None
names_gone at s t q above below =
    cond-false (is_prefix t q) (at (s ++ drop (length t) q)) (cond (is_prefix s q) None (at q)) above ∙ cond-true (is_prefix s q) None (at q) below

pub names_else : (at : Named) (s t q : Names) → is_prefix t q ≡ false → is_prefix s q ≡ false → with_names_moved at s t q ≡ at q
names_else at s t q above below =
    cond-false (is_prefix t q) (at (s ++ drop (length t) q)) (cond (is_prefix s q) None (at q)) above ∙ cond-false (is_prefix s q) None (at q) below

-- an object with one name is changed
pub tree_with_object : (at : Named) (items : ℕ → Option Item) (p : Names) (object : ℕ) (item : Item) → HasOneName at → at p ≡ Some object
    → tree_of at (with_object items object item) ≡ with_item (tree_of at items) p item
tree_with_object at items p object item one stands = fun_ext (λ q. elim (same_path p q) [
  | inl e ↦
      let here : at q ≡ Some object = ap (λ (r : Names). at r) (sym e) ∙ stands in
      what_same items object item (at q) here ∙ subst (λ (r : Names). Some item ≡ with_item (tree_of at items) p item r) e (sym (with_same (tree_of at items) p item))
  | inr ne ↦ what_other items object item (at q) (λ e. ne (one.once p q object stands e)) ∙ sym (with_other (tree_of at items) p item q ne)
])

-- an object that stood nowhere stands at q
pub tree_with_name : (at : Named) (items : ℕ → Option Item) (q : Names) (object : ℕ) (item : Item) → (HasName at object → ⊥)
    → tree_of (with_name at q object) (with_object items object item) ≡ with_item (tree_of at items) q item
tree_with_name at items q object item fresh = fun_ext (λ r. elim (same_path q r) [
  | inl e ↦
      let here : with_name at q object r ≡ Some object = subst (λ (x : Names). with_name at q object x ≡ Some object) e (with_name-same at q object) in
      what_same items object item (with_name at q object r) here ∙ subst (λ (x : Names). Some item ≡ with_item (tree_of at items) q item x) e (sym (with_same (tree_of at items) q item))
  | inr ne ↦
      ap (λ (o : Option ℕ). what_is (with_object items object item) o) (with_name-other at q object r ne)
      ∙ (what_other items object item (at r) (λ e. fresh (record { path = r; stands = e })) ∙ sym (with_other (tree_of at items) q item r ne))
])

-- a name is gone
pub tree_without_name : (at : Named) (items : ℕ → Option Item) (q : Names) → tree_of (without_name at q) items ≡ without (tree_of at items) q
tree_without_name at items q = fun_ext (λ r. elim (same_path q r) [
  | inl e ↦
      let here : without_name at q r ≡ None = subst (λ (x : Names). without_name at q x ≡ None) e (without_name-same at q) in
      ap (λ (o : Option ℕ). what_is items o) here ∙ subst (λ (x : Names). None ≡ without (tree_of at items) q x) e (sym (without_same (tree_of at items) q))
  | inr ne ↦ ap (λ (o : Option ℕ). what_is items o) (without_name-other at q r ne) ∙ sym (without_other (tree_of at items) q r ne)
])

-- names move
pub tree_with_names_moved : (at : Named) (items : ℕ → Option Item) (s t : Names) → tree_of (with_names_moved at s t) items ≡ moved (tree_of at items) s t
tree_with_names_moved at items s t = fun_ext (λ q. three_ways (λ (r : Names). tree_of (with_names_moved at s t) items r ≡ moved (tree_of at items) s t r) s t q
    (λ more. ap (λ (o : Option ℕ). what_is items o) (names_below at s t more) ∙ sym (moved_below (tree_of at items) s t more))
    (λ above below. ap (λ (o : Option ℕ). what_is items o) (names_gone at s t q above below) ∙ sym (moved_gone (tree_of at items) s t q above below))
    (λ above below. ap (λ (o : Option ℕ). what_is items o) (names_else at s t q above below) ∙ sym (moved_else (tree_of at items) s t q above below)))

-- a fresh object has its first name
pub once_with_name : (at : Named) (q : Names) (object : ℕ) → HasOneName at → (HasName at object → ⊥) → HasOneName (with_name at q object)
once_with_name at q object one fresh =
    let other : (r : Names) (n : ℕ) → (q ≡ r → ⊥) → with_name at q object r ≡ Some n → (at r ≡ Some n) × (n ≡ object → ⊥) = λ r n ne e.
    let here : at r ≡ Some n = sym (with_name-other at q object r ne) ∙ e in
    (here, λ same. fresh (record { path = r; stands = here ∙ ap (λ (k : ℕ). Some k) same })) in
    let same : (r : Names) (n : ℕ) → q ≡ r → with_name at q object r ≡ Some n → n ≡ object = λ r n is e.
    same_Some n object (sym e ∙ subst (λ (x : Names). with_name at q object x ≡ Some object) is (with_name-same at q object)) in
    record {
      once = λ a b n e f. elim (same_path q a) [
        | inl is ↦ elim (same_path q b) [
          | inl is' ↦ sym is ∙ is'
          | inr ne ↦ absurd ((other b n ne f).1 (same a n is e))
        ]
        | inr ne ↦ elim (same_path q b) [
          | inl is' ↦ absurd ((other a n ne e).1 (same b n is' f))
          | inr ne' ↦ one.once a b n (other a n ne e).0 (other b n ne' f).0
        ]
      ];
    }

pub once_without_name : (at : Named) (q : Names) → HasOneName at → HasOneName (without_name at q)
once_without_name at q one =
    let was : (r : Names) (n : ℕ) → without_name at q r ≡ Some n → at r ≡ Some n = λ r n e. elim (same_path q r) [
      | inl is ↦ absurd (none-some n (sym (subst (λ (x : Names). without_name at q x ≡ None) is (without_name-same at q)) ∙ e))
      | inr ne ↦ sym (without_name-other at q r ne) ∙ e
    ] in
    record { once = λ a b n e f. one.once a b n (was a n e) (was b n f) }

-- where that stood which stands at q when names have moved: below s, or at q itself
abbrev CameFrom : Named → Names → Names → ℕ → Names → Type 0
CameFrom at s t n q = ((more : Names) × (q ≡ t ++ more) × (at (s ++ more) ≡ Some n)) ⊎ ((is_prefix s q ≡ false) × (at q ≡ Some n))

came_from : (at : Named) (s t : Names) (n : ℕ) (q : Names) → with_names_moved at s t q ≡ Some n → CameFrom at s t n q
came_from at s t n q = three_ways (λ (r : Names). with_names_moved at s t r ≡ Some n → CameFrom at s t n r) s t q
    (λ more e. inl (more, refl, sym (names_below at s t more) ∙ e))
    (λ above below e. absurd (none-some n (sym (names_gone at s t q above below) ∙ e)))
    (λ above below e. inr (below, sym (names_else at s t q above below) ∙ e))

same_rest : (s a b : Names) → s ++ a ≡ s ++ b → a ≡ b
same_rest s a b e = sym (drop-append s a) ∙ (ap (λ (p : Names). drop (length s) p) e ∙ drop-append s b)

once_from : (at : Named) (s t a b : Names) (n : ℕ) → HasOneName at → CameFrom at s t n a → CameFrom at s t n b → a ≡ b
once_from at s t a b n one (inl (more, is, was)) (inl (more', is', was')) =
    is ∙ (ap (λ (r : Names). t ++ r) (same_rest s more more' (one.once (s ++ more) (s ++ more') n was was')) ∙ sym is')
once_from at s t a b n one (inl (more, is, was)) (inr (beside, was')) = absurd (no_prefix s b more beside (one.once b (s ++ more) n was' was))
once_from at s t a b n one (inr (beside, was)) (inl (more, is, was')) = absurd (no_prefix s a more beside (one.once a (s ++ more) n was was'))
once_from at s t a b n one (inr (beside, was)) (inr (beside', was')) = one.once a b n was was'

pub once_with_names_moved : (at : Named) (s t : Names) → HasOneName at → HasOneName (with_names_moved at s t)
once_with_names_moved at s t one = record { once = λ a b n e f. once_from at s t a b n one (came_from at s t n a e) (came_from at s t n b f) }

what_if : (items : ℕ → Option Item) (here : Bool) (object : ℕ) (found : Option ℕ) → what_is items (cond here (Some object) found) ≡ cond here (items object) (what_is items found)
what_if items true object found = refl
what_if items false object found = refl

-- the object at s stands at t as well
pub tree_with_further : (at : Named) (items : ℕ → Option Item) (s t : Names) (object : ℕ) → at s ≡ Some object → tree_of (with_name at t object) items ≡ with_further (tree_of at items) s t
tree_with_further at items s t object stands = fun_ext (λ q.
    what_if items (is_path t q) object (at q)
    ∙ ap (λ (found : Option Item). cond (is_path t q) found (what_is items (at q))) (sym (ap (λ (o : Option ℕ). what_is items o) stands)))
