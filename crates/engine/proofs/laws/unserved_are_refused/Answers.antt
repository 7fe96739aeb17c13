use Rattle.engine.specs.Tables.{worlds}
use Rattle.engine.proofs.Unserved.{unserved_refused}
use Rattle.engine.proofs.laws.unserved_are_refused.Goals as goal

pub returns : goal.returns
returns c = unserved_refused worlds
