use Rattle.std.proofs.Common.{rules}
use Rattle.table_requests.proofs.CountedHolds.{holders_dropped, holders_left, owner_counted, sharer_counted}
use Rattle.table_requests.proofs.held_paths.drop_holder.Goals as goal

pub drop_holds-requires-clause-shared : goal.drop_holds-requires-clause-shared
drop_holds-requires-clause-shared c =
    let it = c.requires.loses in
    sharer_counted c.args.held.now it.0 it.1 c.args.id c.args.lost.now it.2 it.3 (search rules)

pub drop_holds-requires-clause-exclusive : goal.drop_holds-requires-clause-exclusive
drop_holds-requires-clause-exclusive c =
    let it = c.requires.loses in
    owner_counted c.args.held.now it.0 it.1 c.args.id c.args.lost.now it.2 it.3 (search rules)

pub returns-then-eq : goal.returns-then-eq
returns-then-eq c = record { dropped = λ fs gs told lost. holders_left c.args.held.now fs gs c.args.id c.args.lost.now told lost (search rules) }

pub returns-else-eq : goal.returns-else-eq
returns-else-eq c = record {
  dropped = λ fs gs told lost.
      let drops = c.drop_holds.ensures.drops in
      holders_dropped c.args.held.now fs gs c.args.id c.args.lost.now told lost c.drop_holds.new.self (search rules) c.drop_holds.ensures.law drops.shared drops.exclusive;
}
