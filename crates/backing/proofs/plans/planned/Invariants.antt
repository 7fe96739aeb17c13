use Rattle.std.proofs.Common.{◌≡◌, drop}
use Rattle.backing.specs.Memory.{planned_at}
use Rattle.backing.proofs.plans.planned.Given as goal

abbrev pub invariant-loop-plan : goal.invariant-loop-plan
invariant-loop-plan l = planned_at l.plans l.call ≡ planned_at (drop l.plan-index l.plans) l.call
