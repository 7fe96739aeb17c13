use Rattle.std.proofs.Common.{ap}
use Rattle.engine_queues.proofs.ReplySteps.{forks}
use Rattle.engine_threads.proofs.queue_ends.ReplyEnds.next_pass.Goals as goal

pub another-pass-requires-clause-rule : goal.another-pass-requires-clause-rule
another-pass-requires-clause-rule c = forks _ _ (ap (λ lane. lane.gets) c.args.self.now.unwritten)
