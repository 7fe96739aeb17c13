use Rattle.std.proofs.Common.{sym, arith}
use Rattle.ledger.proofs.SumsLemmas.{entries_of-le}
use Rattle.tree.specs.Places.{at_in}
use Rattle.table_steps.specs.Keeping.{kept_by}
use Rattle.table_steps.proofs.Entering.{law_entered}
use Rattle.table_steps.proofs.entries.enter_again.Goals as goal

pub returns-clause-law : goal.returns-clause-law
returns-clause-law c =
    let x = c.in-Some.node.now in
    let stood = sym c.in-Some.ensures.found in
    law_entered (at_in c.args.tree.now) (at_in c.set_count.new.self) c.args.ledger.now.made c.post.new.self.made (kept_by c.args._flights.now c.args._files.now) c.args.number c.args._key.now.parent c.args._key.now.name x
    c.requires.law stood c.requires.named (c.set_count.ensures.writes x stood).nodes c.post.ensures.made c.set_count.ensures.tree

pub overflow_add-count : goal.overflow_add-count
overflow_add-count c =
    let x = c.in-Some.node.now in
    let booked = c.requires.law.booked in
    let counts = booked.counted.counts c.args.number x (sym c.in-Some.ensures.found) in
    let few = entries_of-le c.args.number x.generation c.args.ledger.now.made booked.carried in
    record { fits = omega (arith, counts, few, c.requires.short) }
