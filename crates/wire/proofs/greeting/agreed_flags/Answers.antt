use Rattle.wire.proofs.Bits.{taken}
use Rattle.wire.proofs.greeting.agreed_flags.Goals as goal

pub returns : goal.returns
returns c = taken c.args.flags
