-- A node is put into the slab and its number is written: it exists and has no links, and all others are unchanged.
use Rattle.std.proofs.Common.{ℕ, ◌+◌, ◌≡◌, Some, None, sym, ap, ◌∙◌}
use Rattle.slab.specs.Slab.{Slab, get, Updates}
use Rattle.collections.specs.declared.children.Linked.{Linked}
use Rattle.collections.specs.Links.{IsLawful, kin_at, kin_or, no_kin}
use Rattle.collections.proofs.Written.{kin_kept}
use Rattle.tree.specs.declared.nodes.Node.{Node}
use Rattle.tree.specs.Children.{parents_in}
use Rattle.tree.specs.Places.{Lookup, with_node}
use Rattle.tree.specs.Stored.{slot_at}
use Rattle.tree.proofs.LookupLemmas.{with_same, with_twice}
use Rattle.tree.proofs.Relating.{alive_written, related_kept}
use Rattle.tree.proofs.Slots.{slot_of, slot_updated, value_or}

module _ (s mid new : Slab (Linked Node)) (n k : ℕ) (l : Linked Node) (x : Node) (e : n ≡ k + 1) (value : l.value ≡ x) (bare : l.kin ≡ no_kin) (vacant : get s k ≡ None) (put : Updates s mid k (Some l)) (wrote : Updates mid new k (Some (record l { value = record l.value { number = k + 1 } }))) where
  pub put_fresh : slot_at s n ≡ None
  put_fresh = slot_of s n k e ∙ ap value_or vacant

  pub put_at : slot_at new ≡ with_node (slot_at s) n (record x { number = n })
  put_at =
      let y : Node = record l.value { number = k + 1 } in
      let numbered : Linked Node = record l { value = y } in
      slot_updated mid new k (Some numbered) n e wrote
      ∙ (ap (λ (a : Lookup). with_node a n y) (slot_updated s mid k (Some l) n e put)
      ∙ (with_twice (slot_at s) n l.value y ∙ (λ i. with_node (slot_at s) n (record (value i) { number = sym e i }))))

  pub put_there : slot_at new n ≡ Some (record x { number = n })
  put_there = ap (λ (a : Lookup). a n) put_at ∙ with_same (slot_at s) n (record x { number = n })

  links : kin_at new ≡ kin_at s
  links =
      let numbered : Linked Node = record l { value = record l.value { number = k + 1 } } in
      kin_kept mid new k n (Some numbered) e wrote (ap kin_or (sym put.changed)) ∙ kin_kept s mid k n (Some l) e put (bare ∙ ap kin_or (sym vacant))

  pub put_related : IsLawful (parents_in (slot_at s)) s → IsLawful (parents_in (slot_at s)) new
  put_related law = related_kept s new (alive_written (slot_at s) (slot_at new) n (record x { number = n }) put_at) links law
