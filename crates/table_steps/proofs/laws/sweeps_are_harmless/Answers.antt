use Rattle.table_steps.proofs.Guarding.{sweeps_harmless}
use Rattle.table_steps.proofs.laws.sweeps_are_harmless.Goals as goal

pub returns : goal.returns
returns c = sweeps_harmless
