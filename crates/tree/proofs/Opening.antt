-- A slab with only the root, and an empty index.
use Rattle.std.proofs.Common.{ℕ, ◌+◌, ◌-◌, ◌≡◌, List, [], Option, Some, None, refl, sym, ap, ◌∙◌, subst, inl, inr, arith}
use Rattle.std.proofs.lemmas.Bool.{cases_eq}
use Rattle.std.proofs.lemmas.Option.{none-some}
use Rattle.std.specs.Map.{lookup}
use mathlib.Core.Path.{fun_ext}
use Rattle.indexmap.specs.IndexMap.{IndexMap}
use Rattle.slab.specs.Slab.{Slab, get, Updates}
use Rattle.collections.specs.Living.{joined, living}
use Rattle.tree.specs.declared.nodes.Key.{Key}
use Rattle.tree.specs.declared.nodes.Node.{Node}
use Rattle.tree.specs.Keys.{same_key}
use Rattle.tree.specs.Places.{Lookup, IsTree, IsNamed, no_nodes, with_node, root_node}
use Rattle.tree.specs.Listed.{counts_of}
use Rattle.tree.specs.Stored.{slot_at, listed, IsStored}
use Rattle.collections.specs.declared.children.Linked.{Linked}
use Rattle.collections.specs.declared.children.Kin.{Kin}
use Rattle.collections.specs.Links.{IsLawful, kin_at, kin_or, linked_at, no_kin}
use Rattle.collections.proofs.Linking.{linked_bare}
use Rattle.collections.proofs.Written.{kin_kept, linked_none, linked_of}
use Rattle.tree.specs.Children.{node_parent, parents_in}
use Rattle.tree.proofs.Relating.{parent_same, parents_with}
use Rattle.tree.proofs.Bearing.{IsTree-root, root_named}
use Rattle.tree.proofs.Slots.{slot_updated, counts_born, value_or}

none_of_nothing : counts_of [] ≡ 0
unfolding counts_of
none_of_nothing = refl

module _ (s new : Slab (Linked Node)) (key : ℕ) (l : Linked Node) (empty : s.slots ≡ []) (first : 1 ≡ key + 1) (root : l.value ≡ root_node) (bare : l.kin ≡ no_kin) (updates : Updates s new key (Some l)) where
  get_none : (k : ℕ) → get s k ≡ None
  get_none k = ap (λ (slots : List (Option (Linked Node))). get (record s { slots = slots }) k) empty

  nothing_at : (n : ℕ) → linked_at s n ≡ None
  nothing_at n = elim (cases_eq n 0) [
    | inl e ↦ linked_none s n e
    | inr ne ↦ let here : n ≡ n - 1 + 1 = omega arith in linked_of s n (n - 1) here ∙ get_none (n - 1)
  ]

  nobody_at : (n : ℕ) → slot_at s n ≡ None
  nobody_at n = ap value_or (nothing_at n)

  nothing : slot_at s ≡ no_nodes
  nothing = fun_ext nobody_at

  root_put : slot_at new ≡ with_node (slot_at s) 1 root_node
  root_put = slot_updated s new key (Some l) 1 first updates ∙ ap (λ (x : Node). with_node (slot_at s) 1 x) root

  pub root_at : slot_at new ≡ with_node no_nodes 1 root_node
  root_at = root_put ∙ ap (λ (at : Lookup). with_node at 1 root_node) nothing

  pub root_tree : IsTree (slot_at new)
  root_tree = subst IsTree (sym root_at) IsTree-root

  pub root_counts : counts_of (listed new.slots) ≡ 0
  root_counts =
      let numbered : (n : ℕ) (x : Node) → slot_at s n ≡ Some x → x.number ≡ n = λ n x h. absurd (none-some x (sym (nobody_at n) ∙ h)) in
      let sum = counts_born s new numbered root_tree.numbered 1 root_node (nobody_at 1) root_put in
      let none : counts_of (listed s.slots) ≡ 0 = ap (λ (slots : List (Option (Linked Node))). counts_of (listed slots)) empty ∙ none_of_nothing in
      omega (arith, sum, none)

  -- the root has no parent, and there is no other node
  orphans : (n : ℕ) → parents_in (slot_at new) n ≡ None
  orphans n = parents_with (slot_at s) (slot_at new) 1 root_node root_put n ∙ sym (parent_same (parents_in (slot_at s)) 1 None (ap node_parent (nobody_at 1)) n) ∙ ap node_parent (nobody_at n)

  links_none : (n : ℕ) → kin_at new n ≡ no_kin
  links_none n = ap (λ (k : ℕ → Kin). k n) (kin_kept s new key 1 (Some l) first updates (bare ∙ ap kin_or (sym (get_none key)))) ∙ ap kin_or (nothing_at n)

  root_related : IsLawful (parents_in (slot_at new)) new
  root_related = record {
    there = λ n p h. absurd (none-some p (sym (orphans n) ∙ h));
    rank = λ n. 0;
    linked = linked_bare (parents_in (slot_at new)) (kin_at new) orphans links_none;
  }

  pub root_stored : {S : Type 0} (m : IndexMap Key (Option ℕ) S) → m.entries ≡ [] → IsStored new m 0
  root_stored m free = record {
    tree = root_tree;
    indexed = record {
      sound = λ k n h. absurd (none-some n (sym (ap (λ (es : List (Key × Option ℕ)). joined (lookup (same_key k) es)) free) ∙ h));
      whole = λ k n h. absurd (root_named n k.parent k.name (subst (λ (at : Lookup). IsNamed at n k.parent k.name) root_at h));
    };
    related = root_related;
    counted = sym (ap (λ (es : List (Key × Option ℕ)). living es) free);
  }
