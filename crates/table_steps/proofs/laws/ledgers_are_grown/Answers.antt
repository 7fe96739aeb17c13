use Rattle.table_steps.proofs.Growing.{ledgers_grown}
use Rattle.table_steps.proofs.laws.ledgers_are_grown.Goals as goal

pub returns : goal.returns
returns c = ledgers_grown
