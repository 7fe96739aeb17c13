use Rattle.std.proofs.Common.{sym, subst, arith}
use Rattle.tree.specs.Moves.{Moves, moved_node}
use Rattle.tree.specs.Places.{Lookup, IsTree}
use Rattle.tree.specs.Stored.{slot_at}
use Rattle.tree.proofs.Climbing.{climbs_alive, cut_unnamed}
use Rattle.tree.proofs.Listing.{lists_moved}
use Rattle.tree.proofs.Moving.{IsTree-moved, Moves-freed, Moves-same}
use Rattle.tree.proofs.Slots.{counts_changed}
use Rattle.tree.proofs.Stepping.{named_lead}
use Rattle.tree.proofs.changes.move_number.Goals as goal

pub returns-then-make_free-clause-moved : goal.returns-then-make_free-clause-moved
returns-then-make_free-clause-moved c =
    let old = slot_at c.args.store.now.nodes in
    let e = c.if-make_free.true in
    subst (λ (at : Lookup). Moves old at c.args.number c.args.key.parent c.args.key.name) (sym (c.make_free.ensures.same e))
    (Moves-same old c.requires.stored.tree c.args.number c.args.key.parent c.args.key.name c.requires.can (c.make_free.ensures.there e))

pub place_number-requires-clause-named : goal.place_number-requires-clause-named
place_number-requires-clause-named c =
    let freed = c.make_free.ensures.free c.if-make_free.false in
    let leads = freed.movable.leads in
    named_lead (slot_at c.make_free.new.store.nodes) c.args.number c.requires.can.not_root leads.names leads.climb

pub place_number-requires-clause-free : goal.place_number-requires-clause-free
place_number-requires-clause-free c = (c.make_free.ensures.free c.if-make_free.false).movable.free

pub place_number-requires-clause-above : goal.place_number-requires-clause-above
place_number-requires-clause-above c =
    let above = (c.make_free.ensures.free c.if-make_free.false).movable.above in
    climbs_alive (slot_at c.make_free.new.store.nodes) c.make_free.ensures.stored.tree.rooted above.names c.args.key.parent above.climb

pub returns-clause-moved : goal.returns-clause-moved
returns-clause-moved c =
    let old = slot_at c.args.store.now.nodes in
    let mid = slot_at c.make_free.new.store.nodes in
    let freed = c.make_free.ensures.free c.if-make_free.false in
    let leads = freed.movable.leads in
    let it = climbs_alive mid c.make_free.ensures.stored.tree.rooted leads.names c.args.number leads.climb in
    subst (λ (at : Lookup). Moves old at c.args.number c.args.key.parent c.args.key.name) (sym (c.place_number.ensures.moved it.0 it.1))
    (Moves-freed old c.requires.stored.tree c.args.number c.args.key.parent c.args.key.name c.requires.can mid it.0 it.1 freed)

pub returns-clause-stored : goal.returns-clause-stored
returns-clause-stored c =
    let mid = slot_at c.make_free.new.store.nodes in
    let freed = c.make_free.ensures.free c.if-make_free.false in
    let leads = freed.movable.leads in
    let it = climbs_alive mid c.make_free.ensures.stored.tree.rooted leads.names c.args.number leads.climb in
    record {
      tree = subst IsTree (sym (c.place_number.ensures.moved it.0 it.1)) (IsTree-moved mid c.args.number c.args.key.parent c.args.key.name it.0 it.1 freed.movable);
      indexed = c.place_number.ensures.indexed;
      related = c.place_number.ensures.related;
      counted = c.place_number.ensures.counted;
    }

pub returns-clause-counts : goal.returns-clause-counts
returns-clause-counts c =
    let mid = slot_at c.make_free.new.store.nodes in
    let freed = c.make_free.ensures.free c.if-make_free.false in
    let leads = freed.movable.leads in
    let it = climbs_alive mid c.make_free.ensures.stored.tree.rooted leads.names c.args.number leads.climb in
    let sum = counts_changed c.make_free.new.store.nodes c.place_number.new.store.nodes c.make_free.ensures.stored.tree.numbered (returns-clause-stored c).tree.numbered c.args.number it.0 (moved_node it.0 c.args.key.parent c.args.key.name) it.1 (c.place_number.ensures.moved it.0 it.1) in
    omega (arith, sum, c.make_free.ensures.counts)

pub returns-clause-lists : goal.returns-clause-lists
returns-clause-lists c =
    let mid = slot_at c.make_free.new.store.nodes in
    let freed = c.make_free.ensures.free c.if-make_free.false in
    let leads = freed.movable.leads in
    let named = named_lead mid c.args.number c.requires.can.not_root leads.names leads.climb in
    let x = named.2.0 in
    lists_moved (slot_at c.args.store.now.nodes) mid (slot_at c.place_number.new.store.nodes) c.args.newly_cut.now.items c.make_free.new.newly_cut.items c.args.number x (moved_node x c.args.key.parent c.args.key.name) named.2.1
    (λ e. cut_unnamed mid c.args.number x named.2.1 e named.0 named.1 named.2) (λ e. cc) (c.place_number.ensures.moved x named.2.1) c.make_free.ensures.lists
