use Rattle.ops.proofs.Bits.{is_set}
use Rattle.ops.proofs.intents.sets_size.Goals as goal

pub returns : goal.returns
returns c = is_set c.args.valid 3
