use Rattle.engine.specs.Keeping.{KeepsBook}
use Rattle.engine.specs.Serving.{around}
use Rattle.engine.specs.Walks.{IsUntouched}
use Rattle.engine.proofs.requests.Session.run.Given as goal

abbrev pub invariant-loop : goal.invariant-loop
invariant-loop g l = record {
  free : g.R.Reach.steps.is_free (g.R.Reach.world l.table);
  untouched : IsUntouched (around l.fn.link l.fn.served (g.R.Reach.world l.fn.table)) (around l.link l.served (g.R.Reach.world l.table));
  keeps : KeepsBook g.R.Reach.steps l.fn.self (g.R.Reach.world l.fn.table) l.fn.share l.self (g.R.Reach.world l.table) l.share;
  idle : g.R.Reach.steps.is_idle (g.R.Reach.world l.table);
}
