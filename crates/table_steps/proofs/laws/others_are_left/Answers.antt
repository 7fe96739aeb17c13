use Rattle.table_steps.proofs.Guarding.{others_left}
use Rattle.table_steps.proofs.laws.others_are_left.Goals as goal

pub returns : goal.returns
returns c = others_left
