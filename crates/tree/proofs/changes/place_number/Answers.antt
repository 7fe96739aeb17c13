use Rattle.std.proofs.Common.{Some, None, refl, sym, ap, ◌∙◌}
use Rattle.tree.specs.declared.nodes.Key.{Key}
use Rattle.collections.specs.Links.{with_parent}
use Rattle.collections.proofs.Written.{if_same}
use Rattle.tree.specs.Children.{parents_in, place_parent}
use Rattle.tree.specs.Moves.{moved_node}
use Rattle.tree.specs.Places.{Lookup}
use Rattle.tree.specs.Stored.{slot_at}
use Rattle.tree.proofs.LookupLemmas.{with_same}
use Rattle.tree.proofs.Relating.{alive_written, parent_here, parent_twice, parents_with, related_as, related_kept}
use Rattle.tree.proofs.Storing.{free_found, moved_indexed, place_found, taken_free}
use Rattle.tree.proofs.changes.place_number.Goals as goal

pub forget_place-requires-clause-there : goal.forget_place-requires-clause-there
forget_place-requires-clause-there c key is =
    let named = c.requires.named.2 in
    place_found (slot_at c.args.store.now.nodes) c.args.store.now.index c.args.number named.0 c.requires.stored.indexed named.1 key (sym (c.replace_place-was.ensures.was named.0 named.1) ∙ is)

pub forget_place-requires-clause-alive : goal.forget_place-requires-clause-alive
forget_place-requires-clause-alive c =
    let h = c.requires.named.2 in
    let key = c.args.key in
    let y = moved_node h.0 key.parent key.name in
    (y, ap (λ (a : Lookup). a c.args.number) (c.replace_place-was.ensures.wrote h.0 h.1) ∙ with_same (slot_at c.args.store.now.nodes) c.args.number y)

pub put-requires-clause-free : goal.put-requires-clause-free
put-requires-clause-free c =
    let named = c.requires.named.2 in
    let k : Key = record { parent = c.requires.named.0; name = c.requires.named.1 } in
    let was = c.replace_place-was.ensures.was named.0 named.1 ∙ named.2 in
    let none = free_found (slot_at c.args.store.now.nodes) c.args.store.now.index c.args.key c.requires.stored.indexed c.requires.free in
    rw c.requires.copy (taken_free c.args.store.now.index c.forget_place.new.store.index k c.args.key (c.forget_place.ensures.taken k was c.args.key) none)

pub add_child-requires-clause-there : goal.add_child-requires-clause-there
add_child-requires-clause-there c =
    let h = c.requires.named.2 in
    let key = c.args.key in
    alive_written (slot_at c.args.store.now.nodes) (slot_at c.forget_place.new.store.nodes) c.args.number (moved_node h.0 key.parent key.name) (c.forget_place.ensures.nodes ∙ c.replace_place-was.ensures.wrote h.0 h.1) c.args.number h.0 h.1

pub add_child-requires-clause-above : goal.add_child-requires-clause-above
add_child-requires-clause-above c =
    let h = c.requires.named.2 in
    let key = c.args.key in
    let above = c.requires.above in
    alive_written (slot_at c.args.store.now.nodes) (slot_at c.forget_place.new.store.nodes) c.args.number (moved_node h.0 key.parent key.name) (c.forget_place.ensures.nodes ∙ c.replace_place-was.ensures.wrote h.0 h.1) key.parent above.0 above.1

pub returns-clause-moved : goal.returns-clause-moved
returns-clause-moved c x stood = c.add_child.ensures.values ∙ (c.forget_place.ensures.nodes ∙ c.replace_place-was.ensures.wrote x stood)

pub returns-clause-indexed : goal.returns-clause-indexed
returns-clause-indexed c =
    let named = c.requires.named.2 in
    let k : Key = record { parent = c.requires.named.0; name = c.requires.named.1 } in
    let was = c.replace_place-was.ensures.was named.0 named.1 ∙ named.2 in
    moved_indexed (slot_at c.args.store.now.nodes) (slot_at c.add_child.new.nodes) c.args.number named.0 k c.args.key c.args.store.now.index c.forget_place.new.store.index c.put.new.map named.1 named.2 c.requires.free (returns-clause-moved c named.0 named.1) c.requires.stored.indexed
    (c.forget_place.ensures.taken k was)
    (λ q. rw c.requires.copy at (c.put.ensures.put q))

pub returns-clause-related : goal.returns-clause-related
returns-clause-related c =
    let h = c.requires.named.2 in
    let s = c.args.store.now.nodes in
    let at = slot_at s in
    let n = c.args.number in
    let key = c.args.key in
    let y = moved_node h.0 key.parent key.name in
    let parents = parents_in at in
    let alone = with_parent parents n None in
    let mid = c.replace_place-was.new.nodes in
    let final = c.add_child.new.nodes in
    let before = related_kept s mid (alive_written at (slot_at mid) n y (c.replace_place-was.ensures.wrote h.0 h.1)) c.replace_place-was.ensures.links c.requires.stored.related in
    let left = c.forget_place.ensures.lawful parents before (parent_here at n h.0 h.1 ∙ ap place_parent (sym (c.replace_place-was.ensures.was h.0 h.1))) in
    let placed = c.add_child.ensures.lawful alone left (if_same n n None (parents n) refl) in
    related_as (with_parent alone n (Some key.parent)) final final
    (λ m. parents_with at (slot_at final) n y (returns-clause-moved c h.0 h.1) m ∙ parent_twice parents n None (Some key.parent) m)
    refl placed
