use Rattle.engine_queues.proofs.ReplySteps.{begins}
use Rattle.test_threads.proofs.writes.both.Goals as goal

pub bounded_with-requires-2-clause-rule : goal.bounded_with-requires-2-clause-rule
bounded_with-requires-2-clause-rule g c = begins
