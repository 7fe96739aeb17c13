use Rattle.std.proofs.Common.{◌∙◌, Option, refl, sym, ap, subst}
use Rattle.crossbeam_channel.specs.Claims.{IsSeatAt, view}
use Rattle.crossbeam_channel.specs.Ends.{receives_on, sends_on}
use Rattle.engine_turns.specs.declared.job.Job.{Job}
use Rattle.engine_turns.specs.Queues.{JobQueue, ReplyQueue}
use Rattle.engine_turns.specs.TableCalls.{OnTable, on_table_of}
use Rattle.engine_threads.specs.Worked.{AnswersLast, Stand, does_shared, stand, stand_of}
use Rattle.engine_threads.proofs.Chains.{has_ended, one_value, stand_same}
use Rattle.engine_threads.proofs.worker_role.WorkerRole.into_end.Goals as goal

pub invariant_of-result : goal.invariant_of-result
invariant_of-result g c =
    let r = c.args.self in
    let w = r.worker in
    let a = c.answer in
    let n = a.new in
    let e = c.into_passes in
    let p = e.result in
    let does = does_shared g.C.Calls.gives in
    let old = stand_of w r.calls r.kept.share (on_table_of r.thread_log) in
    let after = stand_of n.worker n.served.calls n.share (on_table_of n.table_handle.thread_log) in
    let left = stand (view p.job_pass) (view p.reply_pass) n.served.calls n.share (on_table_of c.into_log.result) in
    let begun = subst (λ (o : OnTable). AnswersLast does w.session.settings w.number c.args.last_job.now (stand_of w r.calls r.kept.share o) after) (ap on_table_of c.new-table_handle.ensures) a.ensures.answers in
    let ended = subst (λ (s : Stand g.row.C.Denot). AnswersLast does w.session.settings w.number c.args.last_job.now old s) (sym (stand_same _ _ _ _ _ _ _ _ _ _ e.ensures.passes.0 e.ensures.passes.1 refl refl (ap on_table_of c.into_log.ensures))) begun in
    let told = subst (λ (o : Option Job). AnswersLast does w.session.settings w.number o old left) (sym c.of.ensures) ended in
    record {
      job_seat = λ queue is. subst (λ (q : JobQueue). IsSeatAt q p.job_pass) (a.ensures.queues.0 ∙ one_value (receives_on w.jobs) queue g.S.Workers.work r.work is) e.ensures.seats.0;
      reply_seat = λ queue is. subst (λ (q : ReplyQueue). IsSeatAt q p.reply_pass) (a.ensures.queues.1 ∙ one_value (sends_on w.replies) queue g.S.Workers.answers r.answers is) e.ensures.seats.1;
      worked = has_ended does g.S.Workers.settings g.S.Workers.given w r.calls r.kept.share (on_table_of r.thread_log) c.of.result.value p n.served.calls n.share (on_table_of c.into_log.result) (e.ensures.number ∙ a.ensures.queues.2) told r.worked;
    }
