use Rattle.std.proofs.Common.{refl}
use Rattle.tree.proofs.Slots.{counts_changed}
use Rattle.tree.proofs.Storing.{stored_written}
use Rattle.tree.proofs.writes.write_count.Goals as goal

pub returns-clause-stored : goal.returns-clause-stored
returns-clause-stored c =
    let x = c.requires.alive.0 in
    let stood = c.requires.alive.1 in
    let y = record x { count = c.args.count } in
    stored_written c.args.store.now.nodes c.count_as.new.nodes c.args.store.now.index c.args.store.now.named c.args.number x y stood (c.count_as.ensures.wrote x stood) c.count_as.ensures.links (record { number = refl; generation = refl; place = refl }) c.requires.stored

pub returns-clause-counts : goal.returns-clause-counts
returns-clause-counts c x stood =
    counts_changed c.args.store.now.nodes c.count_as.new.nodes c.requires.stored.tree.numbered (returns-clause-stored c).tree.numbered c.args.number x (record x { count = c.args.count }) stood (c.count_as.ensures.wrote x stood)
