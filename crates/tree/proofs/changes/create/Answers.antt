use Rattle.std.proofs.Common.{◌≡◌, None, refl, sym, ap, ◌∙◌, arith, subst}
use Rattle.std.proofs.lemmas.Option.{none-some}
use Rattle.tree.specs.Places.{Lookup, IsTree, born_node, with_node}
use Rattle.tree.specs.Stored.{slot_at}
use Rattle.tree.proofs.Bearing.{IsTree-birth}
use Rattle.tree.proofs.Indexing.{IsIndexed-named}
use Rattle.tree.proofs.LookupLemmas.{with_same, with_other}
use Rattle.tree.proofs.Climbing.{climbs_alive}
use Rattle.tree.specs.Children.{parents_in}
use Rattle.tree.proofs.Inserting.{put_at, put_related, put_there}
use Rattle.tree.proofs.Relating.{alive_written, parent_none, related_with}
use Rattle.tree.proofs.Slots.{counts_born, slot_of, value_or}
use Rattle.tree.proofs.Storing.{free_found}
use Rattle.tree.proofs.changes.create.Goals as goal

pub put-requires-clause-free : goal.put-requires-clause-free
put-requires-clause-free c =
    let key = c.args.key in
    rw c.requires.copy (free_found (slot_at c.args.store.now.nodes) c.args.store.now.index key c.requires.stored.indexed c.requires.free)

pub overflow_add-store : goal.overflow_add-store
overflow_add-store c = omega (arith, c.requires.keys)

pub returns-clause-fresh : goal.returns-clause-fresh
returns-clause-fresh c =
    slot_of c.args.store.now.nodes c.write_number-number.result c.insert_reserved-at.result c.write_number-number.ensures.number ∙ ap value_or c.insert_reserved-at.ensures.was_vacant

pub add_child-requires-clause-there : goal.add_child-requires-clause-there
add_child-requires-clause-there c =
    let n = c.write_number-number.result in
    let key = c.args.key in
    let x = born_node 0 c.args.generation key.parent key.name in
    let l = c.unlinked.result in
    let put = c.insert_reserved-at.ensures in
    (record x { number = n }, put_there c.args.store.now.nodes c.insert_reserved-at.new.self c.write_number-number.new.nodes n c.insert_reserved-at.result l x c.write_number-number.ensures.number c.unlinked.ensures.value c.unlinked.ensures.kin put.was_vacant put.updates (c.write_number-number.ensures.wrote l put.updates.changed))

pub add_child-requires-clause-above : goal.add_child-requires-clause-above
add_child-requires-clause-above c =
    let at = slot_at c.args.store.now.nodes in
    let n = c.write_number-number.result in
    let key = c.args.key in
    let x = born_node 0 c.args.generation key.parent key.name in
    let l = c.unlinked.result in
    let put = c.insert_reserved-at.ensures in
    let leads = c.requires.above in
    let it = climbs_alive at c.requires.stored.tree.rooted leads.names key.parent leads.climb in
    alive_written at (slot_at c.write_number-number.new.nodes) n (record x { number = n })
    (put_at c.args.store.now.nodes c.insert_reserved-at.new.self c.write_number-number.new.nodes n c.insert_reserved-at.result l x c.write_number-number.ensures.number c.unlinked.ensures.value c.unlinked.ensures.kin put.was_vacant put.updates (c.write_number-number.ensures.wrote l put.updates.changed))
    key.parent it.0 it.1

pub returns-clause-nodes : goal.returns-clause-nodes
returns-clause-nodes c =
    let n = c.write_number-number.result in
    let key = c.args.key in
    let x = born_node 0 c.args.generation key.parent key.name in
    let l = c.unlinked.result in
    let put = c.insert_reserved-at.ensures in
    c.add_child.ensures.values
    ∙ put_at c.args.store.now.nodes c.insert_reserved-at.new.self c.write_number-number.new.nodes n c.insert_reserved-at.result l x c.write_number-number.ensures.number c.unlinked.ensures.value c.unlinked.ensures.kin put.was_vacant put.updates (c.write_number-number.ensures.wrote l put.updates.changed)

pub returns-clause-stored : goal.returns-clause-stored
returns-clause-stored c =
    let at = slot_at c.args.store.now.nodes in
    let n = c.write_number-number.result in
    let key = c.args.key in
    let x = born_node 0 c.args.generation key.parent key.name in
    let y = born_node n c.args.generation key.parent key.name in
    let l = c.unlinked.result in
    let put = c.insert_reserved-at.ensures in
    let new = slot_at c.add_child.new.nodes in
    let wrote : new ≡ with_node at n y = returns-clause-nodes c in
    let fresh : at n ≡ None = returns-clause-fresh c in
    let before = put_related c.args.store.now.nodes c.insert_reserved-at.new.self c.write_number-number.new.nodes n c.insert_reserved-at.result l x c.write_number-number.ensures.number c.unlinked.ensures.value c.unlinked.ensures.kin put.was_vacant put.updates (c.write_number-number.ensures.wrote l put.updates.changed) c.requires.stored.related in
    record {
      tree = subst IsTree (sym wrote) (IsTree-birth at c.requires.stored.tree n y key.parent key.name fresh refl refl c.requires.free c.requires.above);
      indexed = IsIndexed-named at new n key c.args.store.now.index c.put.new.map
          (λ j ne. ap (λ (a : Lookup). a j) wrote ∙ with_other at n y j ne)
          c.requires.free
          (λ p name h. none-some h.0 (sym fresh ∙ h.1))
          (y, ap (λ (a : Lookup). a n) wrote ∙ with_same at n y, refl)
          c.requires.stored.indexed
          (λ q. rw c.requires.copy at (c.put.ensures.put q));
      related = related_with at c.add_child.new.nodes n y wrote (c.add_child.ensures.lawful (parents_in at) before (parent_none at n fresh));
      counted = omega (arith, c.put.ensures.live, c.requires.stored.counted);
    }

pub returns-clause-counts : goal.returns-clause-counts
returns-clause-counts c =
    let n = c.write_number-number.result in
    let key = c.args.key in
    let y = born_node n c.args.generation key.parent key.name in
    let sum = counts_born c.args.store.now.nodes c.add_child.new.nodes c.requires.stored.tree.numbered (returns-clause-stored c).tree.numbered n y (returns-clause-fresh c) (returns-clause-nodes c) in
    omega (arith, sum)
