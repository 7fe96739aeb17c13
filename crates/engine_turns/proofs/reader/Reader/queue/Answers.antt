use Rattle.std.proofs.Common.{◌≡◌, length, map, refl, sym, ap, ◌∙◌, subst}
use Rattle.crossbeam_channel.specs.Claims.{view}
use Rattle.engine_queues.specs.Jobs.{numbers}
use Rattle.engine_queues.specs.declared.jobs.Hand.{Hand}
use Rattle.engine_queues.proofs.JobSteps.{puts}
use Rattle.engine_queues.proofs.Numbers.{numbered_snoc}
use Rattle.engine_turns.specs.Shown.{queued_of}
use Rattle.engine_turns.specs.declared.job.Job.{Job}
use Rattle.engine_turns.proofs.Queuing.{queued_snoc}
use Rattle.engine_turns.proofs.reader.Reader.queue.Goals as goal

pub send_as-requires-clause-rule : goal.send_as-requires-clause-rule
send_as-requires-clause-rule g c = (puts _ _ _ _ c.args.self.now.some_part, λ items views b at. tt)

pub invariant_of-self-in-Ok-clause-numbered : goal.invariant_of-self-in-Ok-clause-numbered
invariant_of-self-in-Ok-clause-numbered g c =
    subst (λ (v : Hand Job). map (λ (j : Job). j.ordinal) v.put ≡ numbers 0 (length v.put)) (sym c.in-Ok.ensures.rule)
    (numbered_snoc (λ (j : Job). j.ordinal) (view c.args.self.now.pass).put _ c.args.self.now.numbered (c.requires ∙ sym c.args.self.now.counted))

pub returns-in-Ok-clause-yes : goal.returns-in-Ok-clause-yes
returns-in-Ok-clause-yes g c is = (ap (λ (v : Hand Job). queued_of v.put) c.in-Ok.ensures.rule ∙ queued_snoc (view c.args.self.now.pass).put _, c.agrees_after-agreed.ensures, refl)
