use Rattle.std.proofs.Common.{ℕ, ◌-◌, ◌∙◌, List, sym, subst, arith}
use Rattle.tree.specs.Moves.{ListsCuts, cut_node}
use Rattle.tree.specs.Children.{parents_in}
use Rattle.tree.specs.Stored.{slot_at}
use Rattle.tree.proofs.Descending.{IsDescended-down, current_named, cuts_on, deeper, descended_on, lists_on, pruned_on}
use Rattle.tree.proofs.Relating.{child_named, childless_last}
use Rattle.tree.proofs.Slots.{counts_changed}
use Rattle.tree.proofs.Ways.{way_short}
use Rattle.tree.proofs.leaves.cut_leaves.Goals as goal

pub overflow_add-depth : goal.overflow_add-depth
overflow_add-depth c =
    let inv = c.loop-child.invariant in
    let d = inv.descended in
    let short = way_short c.loop-child.store.nodes inv.stored.tree c.args.number c.loop-child.current d.names d.climb in
    omega (arith, short, d.count, inv.len, c.requires.few)

pub loop-child-smaller-in-Some : goal.loop-child-smaller-in-Some
loop-child-smaller-in-Some c =
    let inv = c.loop-child.invariant in
    let d = inv.descended in
    let short = way_short c.loop-child.store.nodes inv.stored.tree c.args.number c.loop-child.current d.names d.climb in
    omega (arith, short, d.count)

pub loop-child-preserved-in-Some : goal.loop-child-preserved-in-Some
loop-child-preserved-in-Some c =
    let inv = c.loop-child.invariant in
    let at = slot_at c.loop-child.store.nodes in
    let named = child_named at c.in-Some.child c.loop-child.current (c.in-Some.ensures.some (parents_in at) inv.stored.related) in
    record {
      pruned = inv.pruned;
      descended = IsDescended-down at c.args.number c.loop-child.current c.loop-child.depth c.in-Some.child named.0 named.1 inv.descended;
      stored = inv.stored;
      counts = inv.counts;
      fewer = inv.fewer;
      len = inv.len;
      capacity = inv.capacity;
      places = inv.places;
      lists = inv.lists;
      list_room = inv.list_room;
      list_capacity = inv.list_capacity;
    }

pub unreachable-requires : goal.unreachable-requires
unreachable-requires c =
    let named = current_named (slot_at c.loop-child.store.nodes) c.args.number c.loop-child.current c.loop-child.depth c.loop-child.invariant.descended in
    c.in_default.ensures.none named.0 named.1 named.2

pub cut_leaf-requires-clause-childless : goal.cut_leaf-requires-clause-childless
cut_leaf-requires-clause-childless c =
    childless_last (slot_at c.loop-child.store.nodes) c.loop-child.current (c.in-None.ensures.none (parents_in (slot_at c.loop-child.store.nodes)) c.loop-child.invariant.stored.related)

pub returns-then-current-number-clause-cuts : goal.returns-then-current-number-clause-cuts
returns-then-current-number-clause-cuts c =
    let inv = c.loop-child.invariant in
    let mid = slot_at c.loop-child.store.nodes in
    let named = c.in-Some-parent_of.ensures.some in
    let leaf = childless_last mid c.loop-child.current (c.in-None.ensures.none (parents_in mid) inv.stored.related) in
    cuts_on (slot_at c.args.store.now.nodes) mid (slot_at c.cut_leaf.new.store.nodes) c.args.number c.loop-child.current c.loop-child.depth c.in-Some-parent_of.parent named.0 named.1 leaf (c.cut_leaf.ensures.cut named.1.0 named.1.1) inv.pruned inv.descended c.if-current-number.true

pub returns-then-current-number-clause-lists : goal.returns-then-current-number-clause-lists
returns-then-current-number-clause-lists c =
    let inv = c.loop-child.invariant in
    let old = slot_at c.args.store.now.nodes in
    let mid = slot_at c.loop-child.store.nodes in
    let new = slot_at c.cut_leaf.new.store.nodes in
    let named = c.in-Some-parent_of.ensures.some in
    let leaf = childless_last mid c.loop-child.current (c.in-None.ensures.none (parents_in mid) inv.stored.related) in
    subst (λ (l : List ℕ). ListsCuts old new c.args.newly_cut.now.items l) (sym c.push_reserved.ensures.items)
    (lists_on old mid new c.args.number c.loop-child.current c.loop-child.depth c.in-Some-parent_of.parent named.0 named.1 leaf (c.cut_leaf.ensures.cut named.1.0 named.1.1) inv.pruned inv.descended c.args.newly_cut.now.items c.loop-child.newly_cut.items inv.lists)

pub returns-then-current-number-clause-counts : goal.returns-then-current-number-clause-counts
returns-then-current-number-clause-counts c =
    let inv = c.loop-child.invariant in
    let named = c.in-Some-parent_of.ensures.some in
    let sum = counts_changed c.loop-child.store.nodes c.cut_leaf.new.store.nodes inv.stored.tree.numbered c.cut_leaf.ensures.stored.tree.numbered c.loop-child.current named.1.0 (cut_node named.1.0) named.1.1 (c.cut_leaf.ensures.cut named.1.0 named.1.1) in
    omega (arith, sum, inv.counts)

pub loop-child-preserved : goal.loop-child-preserved
loop-child-preserved c =
    let inv = c.loop-child.invariant in
    let old = slot_at c.args.store.now.nodes in
    let mid = slot_at c.loop-child.store.nodes in
    let new = slot_at c.cut_leaf.new.store.nodes in
    let named = c.in-Some-parent_of.ensures.some in
    let p = c.in-Some-parent_of.parent in
    let leaf = childless_last mid c.loop-child.current (c.in-None.ensures.none (parents_in mid) inv.stored.related) in
    let wrote = c.cut_leaf.ensures.cut named.1.0 named.1.1 in
    let other = c.if-current-number.false in
    let deep = deeper mid c.args.number c.loop-child.current c.loop-child.depth other inv.descended in
    let sum = counts_changed c.loop-child.store.nodes c.cut_leaf.new.store.nodes inv.stored.tree.numbered c.cut_leaf.ensures.stored.tree.numbered c.loop-child.current named.1.0 (cut_node named.1.0) named.1.1 wrote in
    record {
      pruned = pruned_on old mid new c.args.number c.loop-child.current c.loop-child.depth p named.0 named.1 leaf wrote inv.pruned inv.descended;
      descended = descended_on old mid new c.args.number c.loop-child.current c.loop-child.depth p named.0 named.1 leaf wrote inv.pruned inv.descended other (c.loop-child.depth - 1) (omega (arith, deep));
      stored = c.cut_leaf.ensures.stored;
      counts = omega (arith, sum, inv.counts);
      fewer = omega (arith, c.cut_leaf.ensures.less, inv.fewer);
      len = c.cut_leaf.ensures.len ∙ inv.len;
      capacity = c.cut_leaf.ensures.capacity ∙ inv.capacity;
      places = c.cut_leaf.ensures.places ∙ inv.places;
      lists = subst (λ (l : List ℕ). ListsCuts old new c.args.newly_cut.now.items l) (sym c.push_reserved.ensures.items) (lists_on old mid new c.args.number c.loop-child.current c.loop-child.depth p named.0 named.1 leaf wrote inv.pruned inv.descended c.args.newly_cut.now.items c.loop-child.newly_cut.items inv.lists);
      list_room = omega (arith, c.push_reserved.ensures.len, c.cut_leaf.ensures.less, inv.list_room);
      list_capacity = c.push_reserved.ensures.capacity ∙ inv.list_capacity;
    }
