use Rattle.table_steps.specs.Kept.{world_of}
use Rattle.table_steps.proofs.PeriodSums.{period_totals}
use Rattle.laws.proofs.table_runs.calls.close_period.Goals as goal

pub returns-clause-totals : goal.returns-clause-totals
returns-clause-totals g c = period_totals (world_of c.args.table.now) (world_of c.close_period.new.self) c.close_period.result c.close_period.ensures.closes
