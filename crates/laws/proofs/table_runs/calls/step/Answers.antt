use Rattle.std.proofs.Common.{refl}
use Rattle.table_steps.specs.Kept.{world_of}
use Rattle.table.proofs.Gaining.{gains_in_all, gains_same, gains_totals}
use Rattle.laws.proofs.table_runs.calls.step.Goals as goal

pub returns-in-Begin-clause-gains : goal.returns-in-Begin-clause-gains
returns-in-Begin-clause-gains g c =
    let old = world_of c.args.table.now in
    let new = world_of c.begin.new.table in
    let share = c.args.share.now in
    gains_in_all old new share share (gains_same old new share share c.begin.ensures.lawful c.begin.ensures.postings refl)

pub returns-in-ClosePeriod-clause-gains : goal.returns-in-ClosePeriod-clause-gains
returns-in-ClosePeriod-clause-gains g c =
    gains_totals (world_of c.args.table.now) (world_of c.close_period.new.table) c.args.share.now c.close_period.ensures.lawful c.close_period.ensures.totals
