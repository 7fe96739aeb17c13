use Rattle.std.proofs.Common.{◌≡◌, ◌≤◌, ◌+◌, ◌*◌, ◌-◌, vec_len, vec_capacity}
use Rattle.slab.specs.Slab.{slab_len}
use Rattle.collections.specs.Living.{places}
use Rattle.tree.specs.Listed.{counts_of}
use Rattle.tree.specs.Moves.{ListsCuts}
use Rattle.tree.specs.Stored.{slot_at, listed, IsStored}
use Rattle.tree.proofs.Descending.{IsDescended}
use Rattle.tree.proofs.Pruning.{IsPruned}
use Rattle.tree.proofs.leaves.cut_leaves.Given as goal

abbrev pub invariant-loop-child : goal.invariant-loop-child
invariant-loop-child l = record {
  pruned : IsPruned (slot_at l.fn.store.nodes) (slot_at l.store.nodes) l.number;
  descended : IsDescended (slot_at l.store.nodes) l.number l.current l.depth;
  stored : IsStored l.store.nodes l.store.index l.store.named;
  counts : counts_of (listed l.store.nodes.slots) ≡ counts_of (listed l.fn.store.nodes.slots);
  fewer : l.store.named ≤ l.fn.store.named;
  len : slab_len l.store.nodes ≡ slab_len l.fn.store.nodes;
  capacity : l.store.nodes.capacity ≡ l.fn.store.nodes.capacity;
  places : places l.store.index ≡ places l.fn.store.index;
  lists : ListsCuts (slot_at l.fn.store.nodes) (slot_at l.store.nodes) l.fn.newly_cut.items l.newly_cut.items;
  list_room : vec_len l.newly_cut + l.store.named ≡ vec_len l.fn.newly_cut + l.fn.store.named;
  list_capacity : vec_capacity l.newly_cut ≡ vec_capacity l.fn.newly_cut;
}

abbrev pub decreases-loop-child : goal.decreases-loop-child
decreases-loop-child l = 2 * l.store.named + (slab_len l.store.nodes - l.depth)
