use Rattle.std.proofs.Common.{sym, ◌∙◌}
use Rattle.table_steps.specs.World.{opened_world}
use Rattle.table_shared.proofs.Histories.{last_is}
use Rattle.table_shared.proofs.shared_table.Closed.into_table.Goals as goal

pub returns : goal.returns
returns g c = c.into_table.ensures ∙ sym (last_is (opened_world g.O.Opening.limits) c.args.self.table.log)
