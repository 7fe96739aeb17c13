use Rattle.engine.specs.Playing.{Playing}
use Rattle.ops.specs.Ahead.{calls_left, plan_ahead}
use Rattle.engine.proofs.playing.play.Given as goal

abbrev pub invariant-loop-call : goal.invariant-loop-call
invariant-loop-call g l = Playing g.C.Calls.gives l.fn.calls (plan_ahead l.fn.script) l.calls (plan_ahead l.script)

abbrev pub decreases-loop-call : goal.decreases-loop-call
decreases-loop-call g l = calls_left l.script
