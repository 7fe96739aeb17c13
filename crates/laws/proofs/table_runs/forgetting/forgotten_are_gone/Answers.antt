use Rattle.laws.proofs.Forgotten.{forgotten_gone}
use Rattle.laws.proofs.table_runs.forgetting.forgotten_are_gone.Goals as goal

pub returns : goal.returns
returns c = forgotten_gone
