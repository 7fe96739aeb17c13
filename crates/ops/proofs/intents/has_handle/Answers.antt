use Rattle.ops.proofs.Bits.{is_set}
use Rattle.ops.proofs.intents.has_handle.Goals as goal

pub returns : goal.returns
returns c = is_set c.args.valid 6
