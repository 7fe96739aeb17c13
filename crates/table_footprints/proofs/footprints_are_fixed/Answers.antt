use Rattle.table_footprints.proofs.Deciding.{demand_once}
use Rattle.table_footprints.proofs.footprints_are_fixed.Goals as goal

pub returns : goal.returns
returns c = demand_once
