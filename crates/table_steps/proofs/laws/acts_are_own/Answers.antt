use Rattle.table_steps.proofs.Guarding.{acts_own}
use Rattle.table_steps.proofs.laws.acts_are_own.Goals as goal

pub returns : goal.returns
returns c = acts_own
