use Rattle.std.proofs.Common.{take}
use Rattle.engine.specs.Serving.{RemovesAll}
use Rattle.engine.proofs.serving.remove_all.Given as goal

-- the files so far are removed
abbrev pub invariant-loop-path : goal.invariant-loop-path
invariant-loop-path g l = RemovesAll g.C.Calls.gives l.initial.calls (take l.path-index l.paths) l.calls
