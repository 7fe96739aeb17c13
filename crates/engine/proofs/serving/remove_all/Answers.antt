use Rattle.std.proofs.Common.{subst}
use Rattle.paths.specs.Prefixes.{Names}
use Rattle.backing.specs.Calls.{AskRemove}
use Rattle.engine.proofs.Removing.{removed_on}
use Rattle.engine.proofs.serving.remove_all.Goals as goal

pub loop-path-preserved : goal.loop-path-preserved
loop-path-preserved g c =
    let step = subst (λ (p : Names). g.C.Calls.gives c.loop-path.calls (AskRemove p) c.call.result c.call.new.self) c.path-item.is c.call.ensures in
    removed_on g.C.Calls.gives c.args.calls.now c.loop-path.calls c.call.new.self c.args.paths.now c.loop-path.path-index c.path-item.result c.call.result c.loop-path-test.true c.loop-path.invariant step
