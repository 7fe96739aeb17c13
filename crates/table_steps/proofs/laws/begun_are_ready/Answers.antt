use Rattle.table_steps.proofs.Beginning.{begun_ready}
use Rattle.table_steps.proofs.laws.begun_are_ready.Goals as goal

pub returns : goal.returns
returns c = begun_ready
