use Rattle.std.proofs.Common.{◌∙◌}
use Rattle.table.proofs.Closing.{book_closed, whole_closed}
use Rattle.table.proofs.table.Table.close_period.Goals as goal

pub attest-requires : goal.attest-requires
attest-requires g c =
    let closed = c.close_period-closed.ensures in
    whole_closed c.self.inside.state c.close_period-closed.new.self c.self.invariant.0 closed.rest closed.kept

pub invariant_of-self : goal.invariant_of-self
invariant_of-self g c =
    let closed = c.close_period-closed.ensures in
    let old = c.self.inside.state in
    let new = c.close_period-closed.new.self in
    (whole_closed old new c.self.invariant.0 closed.rest closed.kept, c.self.invariant.1 ∙ book_closed old new c.close_period-closed.result closed.closes)
