-- What a change of one node does to the parents and to the links among children.
use Rattle.std.proofs.Common.{ℕ, ◌≡◌, Option, Some, None, refl, sym, ap, ◌∙◌, inl, inr}
use Rattle.std.proofs.lemmas.Bool.{cases_eq}
use Rattle.std.proofs.lemmas.Option.{none-some, same_Some}
use Rattle.slab.specs.Slab.{Slab}
use Rattle.paths.specs.Prefixes.{Name}
use Rattle.collections.specs.declared.children.Linked.{Linked}
use Rattle.collections.specs.Links.{IsLawful, kin_at, with_parent}
use Rattle.collections.proofs.Written.{if_other, if_same, lawful_as, lawful_kept}
use Rattle.tree.specs.declared.nodes.Node.{Node}
use Rattle.tree.specs.declared.nodes.Place.{Place}
use Rattle.tree.specs.declared.nodes.Place.TheVariants.{Root, Named, Cut}
use Rattle.tree.specs.Children.{place_parent, node_parent, parents_in}
use Rattle.tree.specs.Places.{Lookup, with_node, without, IsNamed, HasChild, IsAlive}
use Rattle.tree.specs.Stored.{slot_at}
use Rattle.tree.proofs.LookupLemmas.{with_other, with_same, without_other, without_same}

-- a number with a parent belongs to a node
pub parent_alive : (o : Option Node) (p : ℕ) → node_parent o ≡ Some p → (x : Node) × (o ≡ Some x)
parent_alive None p h = absurd (none-some p h)
parent_alive (Some x) p h = (x, refl)

-- links that fit parents also fit equal parents
pub related_as : (parents : ℕ → Option ℕ) (s s' : Slab (Linked Node)) → ((n : ℕ) → parents_in (slot_at s') n ≡ parents n) → kin_at s' ≡ kin_at s → IsLawful parents s → IsLawful (parents_in (slot_at s')) s'
related_as parents s s' same links law =
    lawful_as parents (parents_in (slot_at s')) s s' same links (λ n p h. parent_alive (slot_at s' n) p (same n ∙ h)) law

-- all nodes still exist, and the links are unchanged
pub related_kept : (s s' : Slab (Linked Node)) → ((m : ℕ) (x : Node) → slot_at s m ≡ Some x → IsAlive (slot_at s') m) → kin_at s' ≡ kin_at s → IsLawful (parents_in (slot_at s)) s → IsLawful (parents_in (slot_at s)) s'
related_kept s s' alive links law =
    lawful_kept (parents_in (slot_at s)) s s' links (λ n p h. let it = parent_alive (slot_at s n) p h in alive n it.0 it.1) law

-- a node that existed before a write exists after it
pub alive_written : (at new : Lookup) (n : ℕ) (y : Node) → new ≡ with_node at n y → (m : ℕ) (x : Node) → at m ≡ Some x → IsAlive new m
alive_written at new n y wrote m x stood = elim (cases_eq n m) [
  | inl e ↦ (y, ap new (sym e) ∙ (ap (λ (a : Lookup). a n) wrote ∙ with_same at n y))
  | inr ne ↦ (x, ap (λ (a : Lookup). a m) wrote ∙ (with_other at n y m ne ∙ stood))
]

-- a node is put at n, or rewritten
pub parents_with : (at new : Lookup) (n : ℕ) (y : Node) → new ≡ with_node at n y → (m : ℕ) → parents_in new m ≡ with_parent (parents_in at) n (place_parent y.place) m
parents_with at new n y wrote m = elim (cases_eq n m) [
  | inl e ↦ ap node_parent (ap new (sym e) ∙ (ap (λ (a : Lookup). a n) wrote ∙ with_same at n y)) ∙ sym (if_same n m (place_parent y.place) (parents_in at m) e)
  | inr ne ↦ ap node_parent (ap (λ (a : Lookup). a m) wrote ∙ with_other at n y m ne) ∙ sym (if_other n m (place_parent y.place) (parents_in at m) ne)
]

pub related_with : (at : Lookup) (s : Slab (Linked Node)) (n : ℕ) (y : Node) → slot_at s ≡ with_node at n y → IsLawful (with_parent (parents_in at) n (place_parent y.place)) s → IsLawful (parents_in (slot_at s)) s
related_with at s n y wrote law = related_as (with_parent (parents_in at) n (place_parent y.place)) s s (parents_with at (slot_at s) n y wrote) refl law

-- the node at n is removed
pub parents_without : (at new : Lookup) (n : ℕ) → new ≡ without at n → (m : ℕ) → parents_in new m ≡ with_parent (parents_in at) n None m
parents_without at new n wrote m = elim (cases_eq n m) [
  | inl e ↦ ap node_parent (ap new (sym e) ∙ (ap (λ (a : Lookup). a n) wrote ∙ without_same at n)) ∙ sym (if_same n m None (parents_in at m) e)
  | inr ne ↦ ap node_parent (ap (λ (a : Lookup). a m) wrote ∙ without_other at n m ne) ∙ sym (if_other n m None (parents_in at m) ne)
]

-- the parent of n is written with the same value, or twice
pub parent_same : (parents : ℕ → Option ℕ) (n : ℕ) (o : Option ℕ) → parents n ≡ o → (m : ℕ) → parents m ≡ with_parent parents n o m
parent_same parents n o here m = elim (cases_eq n m) [
  | inl e ↦ ap parents (sym e) ∙ (here ∙ sym (if_same n m o (parents m) e))
  | inr ne ↦ sym (if_other n m o (parents m) ne)
]

pub parent_twice : (parents : ℕ → Option ℕ) (n : ℕ) (o o' : Option ℕ) (m : ℕ) → with_parent parents n o' m ≡ with_parent (with_parent parents n o) n o' m
parent_twice parents n o o' m = elim (cases_eq n m) [
  | inl e ↦ if_same n m o' (parents m) e ∙ sym (if_same n m o' (with_parent parents n o m) e)
  | inr ne ↦ if_other n m o' (parents m) ne ∙ (sym (if_other n m o (parents m) ne) ∙ sym (if_other n m o' (with_parent parents n o m) ne))
]

-- ---- a child is a named node, and the other way round

named_of : (at : Lookup) (n p : ℕ) (o : Option Node) → at n ≡ o → node_parent o ≡ Some p → (name : Name) × IsNamed at n p name
named_of at n p None e h = absurd (none-some p h)
named_of at n p (Some x) e h = by x.place refl h
  where
    by : (q : Place) → x.place ≡ q → place_parent q ≡ Some p → (name : Name) × IsNamed at n p name
    by Root is h' = absurd (none-some p h')
    by (Named k) is h' =
        let same : k.parent ≡ p = same_Some k.parent p h' in
        (k.name, (x, e, is ∙ (λ i. Named (record { parent = same i; name = k.name }))))
    by Cut is h' = absurd (none-some p h')

module _ (at : Lookup) where
  -- the parent of a node that exists
  pub parent_here : (n : ℕ) (x : Node) → at n ≡ Some x → parents_in at n ≡ place_parent x.place
  parent_here n x stood = ap node_parent stood

  pub parent_none : (n : ℕ) → at n ≡ None → parents_in at n ≡ None
  parent_none n none = ap node_parent none

  pub child_named : (n p : ℕ) → parents_in at n ≡ Some p → (name : Name) × IsNamed at n p name
  child_named n p h = named_of at n p (at n) refl h

  pub named_child : (n p : ℕ) (name : Name) → IsNamed at n p name → parents_in at n ≡ Some p
  named_child n p name h = parent_here n h.0 h.1 ∙ ap place_parent h.2

  pub childless_last : (p : ℕ) → ((n : ℕ) → parents_in at n ≡ Some p → ⊥) → HasChild at p → ⊥
  childless_last p none child = none child.0 (named_child child.0 p child.1 child.2)

  pub childless_here : (p : ℕ) → (HasChild at p → ⊥) → (n : ℕ) → parents_in at n ≡ Some p → ⊥
  childless_here p none n h = let it = child_named n p h in none (n, it.0, it.1)
