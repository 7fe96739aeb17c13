use Rattle.table_footprints.proofs.FootprintLemmas.{are_grounded}
use Rattle.table_footprints.proofs.footprints_are_grounded.Goals as goal

pub returns : goal.returns
returns c = are_grounded
