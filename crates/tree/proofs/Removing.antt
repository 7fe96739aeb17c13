-- A node that is cut and has no children is removed from the slab.
use Rattle.std.proofs.Common.{ℕ, ◌+◌, ◌≡◌, Some, None, refl, sym, ap, ◌∙◌, inl, inr, arith}
use Rattle.std.proofs.lemmas.Bool.{cases_eq}
use Rattle.std.proofs.lemmas.Bool.Decides.{nat_tests}
use Rattle.std.proofs.lemmas.Option.{none-some}
use mathlib.Core.Path.{fun_ext}
use Rattle.slab.specs.Slab.{Slab, Updates}
use Rattle.collections.specs.declared.children.Linked.{Linked}
use Rattle.collections.specs.Links.{IsLawful, kin_at, kin_or, with_parent}
use Rattle.collections.proofs.Linking.{bare_kin}
use Rattle.collections.proofs.Written.{if_other, if_same, kin_kept, lawful_as, linked_of}
use Rattle.tree.specs.declared.nodes.Node.{Node}
use Rattle.tree.specs.Children.{parents_in}
use Rattle.tree.specs.Places.{Lookup, HasChild, with_node, without}
use Rattle.tree.specs.Stored.{slot_at}
use Rattle.tree.proofs.LookupLemmas.{without_other}
use Rattle.tree.proofs.Relating.{childless_here, parent_alive, parents_without}
use Rattle.tree.proofs.Slots.{slot_updated}

without_written : (at : Lookup) (n : ℕ) (y : Node) → without (with_node at n y) n ≡ without at n
without_written at n y = fun_ext (λ m. grind (arith, nat_tests))

module _ (at : Lookup) (s new : Slab (Linked Node)) (n k : ℕ) (y : Node) (e : n ≡ k + 1) (cut : slot_at s ≡ with_node at n y) (taken : Updates s new k None) where
  pub gone_at : slot_at new ≡ without at n
  gone_at = slot_updated s new k None n e taken ∙ (ap (λ (a : Lookup). without a n) cut ∙ without_written at n y)

  pub gone_related : (HasChild at n → ⊥) → IsLawful (with_parent (parents_in at) n None) s → IsLawful (parents_in (slot_at new)) new
  gone_related childless law =
      let parents = with_parent (parents_in at) n None in
      let mine : parents n ≡ None = if_same n n None (parents_in at n) refl in
      let other : (m p : ℕ) → parents m ≡ Some p → (n ≡ m → ⊥) × (parents_in at m ≡ Some p) = λ m p h. elim (cases_eq n m) [
        | inl same ↦ absurd (none-some p (sym (if_same n m None (parents_in at m) same) ∙ h))
        | inr ne ↦ (ne, sym (if_other n m None (parents_in at m) ne) ∙ h)
      ] in
      let bare = bare_kin parents (kin_at s) law.rank law.linked n mine (λ m h. childless_here at n childless m (other m n h).1) in
      let links = kin_kept s new k n None e taken (sym (sym (ap kin_or (linked_of s n k e)) ∙ bare)) in
      lawful_as parents (parents_in (slot_at new)) s new (parents_without at (slot_at new) n gone_at) links
      (λ m p h. let it = other m p h in let x = parent_alive (at m) p it.1 in (x.0, ap (λ (a : Lookup). a m) gone_at ∙ (without_other at n m it.0 ∙ x.1)))
      law
