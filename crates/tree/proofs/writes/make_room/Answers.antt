use Rattle.std.proofs.Common.{refl, ap}
use Rattle.slab.specs.Slab.{Slab}
use Rattle.collections.specs.declared.children.Linked.{Linked}
use Rattle.tree.specs.declared.nodes.Node.{Node}
use Rattle.tree.proofs.Storing.{stored_same}
use Rattle.tree.proofs.writes.make_room.Goals as goal

pub returns-in_err-reserve-clause-stored : goal.returns-in_err-reserve-clause-stored
returns-in_err-reserve-clause-stored c =
    let old = c.args.store.now in
    stored_same old.nodes c.reserve.new.self old.index old.index old.named (ap (λ (s : Slab (Linked Node)). s.slots) c.reserve.ensures.rest_kept) refl c.requires.stored

pub returns-clause-stored : goal.returns-clause-stored
returns-clause-stored c =
    let old = c.args.store.now in
    stored_same old.nodes c.reserve.new.self old.index c.make_places.new.map old.named (ap (λ (s : Slab (Linked Node)). s.slots) c.reserve.ensures.rest_kept) c.make_places.ensures.same c.requires.stored
