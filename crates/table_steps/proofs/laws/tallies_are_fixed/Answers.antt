use Rattle.table_steps.proofs.Adding.{tally_once}
use Rattle.table_steps.proofs.laws.tallies_are_fixed.Goals as goal

pub returns : goal.returns
returns c = tally_once
