use Rattle.std.proofs.Common.{arith, refl}
use Rattle.table_steps.proofs.Backs.{among_at}
use Rattle.table_steps.proofs.settle.take_all_back.Goals as goal

pub take_back-requires-clause-suspect : goal.take_back-requires-clause-suspect
take_back-requires-clause-suspect c = among_at c.args.pins.now c.loop-i.i _ (omega arith) refl
