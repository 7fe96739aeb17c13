use Rattle.table_steps.proofs.Guarding.{entries_harmless}
use Rattle.table_steps.proofs.laws.entries_are_harmless.Goals as goal

pub returns : goal.returns
returns c = entries_harmless
