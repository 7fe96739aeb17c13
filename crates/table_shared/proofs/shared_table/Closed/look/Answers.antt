use Rattle.std.proofs.Common.{ap, ◌∙◌}
use Rattle.table_shared.specs.Histories.{calls_of}
use Rattle.table_shared.proofs.Histories.{calls_are}
use Rattle.table_shared.proofs.shared_table.Closed.look.Goals as goal

pub returns-clause-calls : goal.returns-clause-calls
returns-clause-calls g c = calls_are c.args.me.now.by c.args.self.now.table.log ∙ ap calls_of c.look.ensures.own
