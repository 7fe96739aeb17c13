use Rattle.std.proofs.Common.{arith}
use Rattle.engine_queues.proofs.JobSteps.{forks}
use Rattle.engine_threads.proofs.queue_ends.JobEnds.next_pass.Goals as goal

pub another-pass-requires-clause-rule : goal.another-pass-requires-clause-rule
another-pass-requires-clause-rule c = forks _ _ (let p = c.args.self.now.parts in let f = c.requires.few in omega arith)
