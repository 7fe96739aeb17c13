use Rattle.table_steps.specs.Kept.{world_of}
use Rattle.laws.proofs.Running.{current_same, current_step}
use Rattle.laws.proofs.table_runs.calls.make.Goals as goal

pub returns-in_err-told-clause-current : goal.returns-in_err-told-clause-current
returns-in_err-told-clause-current g c id current =
    current_same (world_of c.args.table.now) (world_of c.step.new.table) c.args.pending.now c.step.new.pending c.in_err-told.ensures.refused.world c.in_err-told.ensures.refused.hand_is id current

pub returns-clause-current : goal.returns-clause-current
returns-clause-current g c id current =
    current_step (world_of c.args.table.now) c.args.pending.now c.args.call c.in_ok-told.told (world_of c.step.new.table) c.step.new.pending
    c.attest.ensures c.step.ensures.lawful c.in_ok-told.ensures.step id current
