use Rattle.std.proofs.Common.{refl}
use Rattle.table_steps.specs.Kept.{world_of}
use Rattle.table_steps.specs.Steps.{bad_handle}
use Rattle.table_steps.proofs.Refusing.{refusal_bits}
use Rattle.table_steps.proofs.state.State.begin.Goals as goal

pub returns-in-Err-clause-begins : goal.returns-in-Err-clause-begins
returns-in-Err-clause-begins c =
    let it = c.in-Err.ensures.err in
    record {
      footprint = it.footprint;
      footprint_is = it.footprint_is;
      begins = (refusal_bits (world_of c.args.self.now) it.footprint c.in-Err.errno (bad_handle it.errno it.bad), refl);
    }
