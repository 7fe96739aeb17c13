use Rattle.engine_queues.proofs.JobSteps as jobs
use Rattle.engine_queues.proofs.ReplySteps as queued_replies
use Rattle.test_threads.proofs.turns.passes_of.Goals as goal

pub another-job_pass-requires-clause-rule : goal.another-job_pass-requires-clause-rule
another-job_pass-requires-clause-rule c = jobs.forks _ _ c.requires.parts

pub another-reply_pass-requires-clause-rule : goal.another-reply_pass-requires-clause-rule
another-reply_pass-requires-clause-rule c = queued_replies.forks _ _ c.requires.gets
