use Rattle.wire.proofs.Cutting.{one_split as only}
use Rattle.wire.proofs.cutter.one_split.Goals as goal

pub returns : goal.returns
returns c = only
