use Rattle.std.proofs.Common.{ap, ◌∙◌}
use Rattle.table_steps.specs.World.{opened_world}
use Rattle.table_shared.specs.Histories.{calls_of, history_of}
use Rattle.table_shared.proofs.Current.{history_current}
use Rattle.table_shared.proofs.Histories.{calls_are, history_run}
use Rattle.table_shared.proofs.shared_table.Closed.attest.Goals as goal

pub returns-clause-history : goal.returns-clause-history
returns-clause-history g c = history_run (opened_world g.O.Opening.limits) c.args.self.now.table.log c.attest.ensures.run

pub returns-clause-current : goal.returns-clause-current
returns-clause-current g c = history_current (opened_world g.O.Opening.limits) (history_of c.args.self.now.table.log) (history_run (opened_world g.O.Opening.limits) c.args.self.now.table.log c.attest.ensures.run)

pub returns-clause-nobody : goal.returns-clause-nobody
returns-clause-nobody g c = λ index others. calls_are index c.args.self.now.table.log ∙ ap calls_of (c.attest.ensures.nobody index others)
