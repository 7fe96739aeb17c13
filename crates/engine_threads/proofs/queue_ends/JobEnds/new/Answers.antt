use Rattle.engine_queues.proofs.JobSteps.{begins}
use Rattle.engine_threads.proofs.queue_ends.JobEnds.new.Goals as goal

pub bounded_with-requires-clause-rule : goal.bounded_with-requires-clause-rule
bounded_with-requires-clause-rule c = begins
