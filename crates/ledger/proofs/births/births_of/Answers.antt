use Rattle.std.proofs.Common.{sym}
use Rattle.ledger.proofs.Rising.{closed_at, closed_nowhere}
use Rattle.ledger.proofs.births.births_of.Goals as goal

pub returns-in-Ok : goal.returns-in-Ok
returns-in-Ok c = sym (closed_at c.args.number c.args.births.now c.in-Ok.place (record { number = 0; count = 0 }) c.requires c.in-Ok.ensures.0 (c.in-Ok.ensures.1 (record { number = 0; count = 0 })))

pub returns-in-Err : goal.returns-in-Err
returns-in-Err c = sym (closed_nowhere c.args.number c.args.births.now c.in-Err.field-0 c.in-Err.ensures.1)
