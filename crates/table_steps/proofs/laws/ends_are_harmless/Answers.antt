use Rattle.table_steps.proofs.Finishing.{ends_harmless}
use Rattle.table_steps.proofs.laws.ends_are_harmless.Goals as goal

pub returns : goal.returns
returns c = ends_harmless
