use Rattle.std.proofs.Common.{length}
use Rattle.wire.specs.Pairs.{pairs_in}
use Rattle.engine.specs.Reference.{ForgetsAll}
use Rattle.engine.proofs.requests.forget_all.Given as goal

abbrev pub invariant-loop-lookups : goal.invariant-loop-lookups
invariant-loop-lookups g l = record {
  onwards : (end : g.R.Reach.World) → ForgetsAll g.R.Reach.steps (g.R.Reach.world l.table) (pairs_in l.rest) end → ForgetsAll g.R.Reach.steps (g.R.Reach.world l.fn.table) (pairs_in l.fn.pairs) end;
  gains : g.R.Reach.steps.gains (g.R.Reach.world l.fn.table) l.fn.share (g.R.Reach.world l.table) l.share;
  idle : g.R.Reach.steps.is_idle (g.R.Reach.world l.table);
}

abbrev pub decreases-loop-lookups : goal.decreases-loop-lookups
decreases-loop-lookups g l = length l.rest
