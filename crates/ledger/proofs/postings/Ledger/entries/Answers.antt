use Rattle.std.proofs.Common.{arith}
use Rattle.ledger.proofs.SumsLemmas.{entries_of-le}
use Rattle.ledger.proofs.Closed.{periods_of}
use Rattle.ledger.proofs.postings.Ledger.entries.Goals as goal

pub entered_in-requires : goal.entered_in-requires
entered_in-requires c =
    let few = entries_of-le c.args.number c.args.generation (periods_of c.self.inside.closed_births.items c.self.inside.closed c.self.inside.postings.items) c.self.invariant.carried in
    rw c.deref.ensures.value (omega (arith, few, c.self.invariant.small.entries))
