use Rattle.std.proofs.Common.{Some, refl}
use Rattle.crossbeam_channel.specs.Claims.{IsSeatAt}
use Rattle.crossbeam_channel.specs.Ends.{sends_on}
use Rattle.engine_turns.specs.declared.job.Job.{Job}
use Rattle.engine_queues.specs.declared.passes.Passes.{Passes}
use Rattle.engine_turns.specs.declared.replies.JobReply.{JobReply}
use Rattle.engine_threads.specs.Worked.{IsSenderAt, IsTakerAt}
use Rattle.engine_threads.proofs.Lists.{all_so}
use Rattle.engine_threads.proofs.traffic.gather_all.Goals as goal

pub gather-requires-clause-seats : goal.gather-requires-clause-seats
gather-requires-clause-seats g c =
    let Own : Type 0 = Passes Job JobReply in
    let jobs = sends_on c.args.senders.now.jobs in
    let replies = sends_on c.args.senders.now.replies in
    all_so (λ (p : Own). IsTakerAt (Some jobs) p.job_pass × IsSenderAt (Some replies) p.reply_pass) (λ (p : Own). IsSeatAt jobs p.job_pass × IsSeatAt replies p.reply_pass) c.args.passes.items (λ p at. (at.0 jobs refl, at.1 replies refl)) c.requires.seats
