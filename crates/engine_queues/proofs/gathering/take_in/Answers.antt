use Rattle.std.proofs.Common.{◌∙◌}
use Rattle.engine_queues.proofs.JobSteps as jobs
use Rattle.engine_queues.proofs.ReplySteps as queued_replies
use Rattle.engine_queues.proofs.gathering.take_in.Goals as goal

pub absorb-requires-clause-rule : goal.absorb-requires-clause-rule
absorb-requires-clause-rule g c = jobs.merges _ _ _ _ c.requires.parts

pub absorb-requires-2-clause-rule : goal.absorb-requires-2-clause-rule
absorb-requires-2-clause-rule g c = queued_replies.merges _ _ _ _ c.requires.gets c.args.passes.sends (c.args.passes.from ∙ c.requires.next)
