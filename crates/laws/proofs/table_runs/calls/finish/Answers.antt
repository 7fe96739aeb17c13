use Rattle.std.proofs.Common.{refl}
use Rattle.table_steps.specs.Kept.{world_of}
use Rattle.table.proofs.Gaining.{gains_totals}
use Rattle.laws.proofs.table_runs.calls.finish.Goals as goal

pub returns-then-len-place-clause-gains : goal.returns-then-len-place-clause-gains
returns-then-len-place-clause-gains g c = gains_totals (world_of c.args.table.now) (world_of c.args.table.now) c.args.share.now c.attest.ensures refl

pub returns-in_err-reserve-clause-gains : goal.returns-in_err-reserve-clause-gains
returns-in_err-reserve-clause-gains g c = gains_totals (world_of c.args.table.now) (world_of c.args.table.now) c.args.share.now c.attest.ensures refl
