use Rattle.std.proofs.Common.{◌≡◌, ◌+◌, [], List, Option, is_some, count_by, arith, refl, sym, ap, ◌∙◌, subst}
use Rattle.slab.specs.Slab.{Slab, slab_len}
use Rattle.collections.specs.declared.children.Linked.{Linked}
use Rattle.tree.specs.declared.nodes.Node.{Node}
use Rattle.tree.specs.Places.{IsTree}
use Rattle.tree.proofs.Opening.{root_at, root_counts, root_stored, root_tree}
use Rattle.tree.proofs.Slots.{seen_at}
use Rattle.tree.proofs.Tree.new.Goals as goal

pub invariant_of-result : goal.invariant_of-result
invariant_of-result c =
    let s = c.reserve.new.self in
    let new = c.insert_reserved.new.self in
    let kept = c.reserve.ensures.rest_kept in
    let empty : s.slots ≡ [] = ap (λ (t : Slab (Linked Node)). t.slots) kept ∙ c.new-nodes.ensures.empty in
    let key : c.insert_reserved.result ≡ 0 = c.insert_reserved.ensures.key ∙ (ap (λ (t : Slab (Linked Node)). t.vacant_key) kept ∙ c.new-nodes.ensures.first_key) in
    let none : slab_len s ≡ 0 = ap (λ (slots : List (Option (Linked Node))). count_by is_some slots) empty in
    let one : 1 ≡ c.insert_reserved.result + 1 = omega (arith, key) in
    record {
      stored = root_stored s new c.insert_reserved.result c.unlinked.result empty one c.unlinked.ensures.value c.unlinked.ensures.kin c.insert_reserved.ensures.updates c.with_hasher.result c.with_hasher.ensures.empty;
      reserved = record {
        slots = omega (arith, c.in_ok-reserve.ensures.room, c.insert_reserved.ensures.len, c.insert_reserved.ensures.capacity);
        keys = omega arith;
        within = omega (arith, none, c.insert_reserved.ensures.len, c.requires);
        few = omega (arith, none, c.insert_reserved.ensures.len);
      };
      lists = omega (arith, c.new.ensures.len, c.new.ensures.capacity);
    }

pub returns : goal.returns
returns c =
    let s = c.reserve.new.self in
    let new = c.insert_reserved.new.self in
    let kept = c.reserve.ensures.rest_kept in
    let empty : s.slots ≡ [] = ap (λ (t : Slab (Linked Node)). t.slots) kept ∙ c.new-nodes.ensures.empty in
    let key : c.insert_reserved.result ≡ 0 = c.insert_reserved.ensures.key ∙ (ap (λ (t : Slab (Linked Node)). t.vacant_key) kept ∙ c.new-nodes.ensures.first_key) in
    let none : slab_len s ≡ 0 = ap (λ (slots : List (Option (Linked Node))). count_by is_some slots) empty in
    let one : 1 ≡ c.insert_reserved.result + 1 = omega (arith, key) in
    let tree = root_tree s new c.insert_reserved.result c.unlinked.result empty one c.unlinked.ensures.value c.unlinked.ensures.kin c.insert_reserved.ensures.updates in
    let seen = seen_at new tree.numbered in
    record {
      nodes = seen ∙ root_at s new c.insert_reserved.result c.unlinked.result empty one c.unlinked.ensures.value c.unlinked.ensures.kin c.insert_reserved.ensures.updates;
      tree = subst IsTree (sym seen) tree;
      living = omega (arith, none, c.insert_reserved.ensures.len);
      counts = root_counts s new c.insert_reserved.result c.unlinked.result empty one c.unlinked.ensures.value c.unlinked.ensures.kin c.insert_reserved.ensures.updates;
      limited = refl;
      none_cut = c.new.ensures.items;
    }
