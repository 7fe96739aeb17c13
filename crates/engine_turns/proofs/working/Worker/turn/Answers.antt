use Rattle.std.proofs.Common.{◌≡◌, Option, ap, subst₂, arith}
use Rattle.table_steps.specs.Answers.{Settlement}
use Rattle.crossbeam_channel.specs.Claims.{view}
use Rattle.engine.specs.Serving.{does}
use Rattle.engine_turns.specs.declared.job.Job.{Job}
use Rattle.engine_queues.proofs.JobSteps.{takes as takes_one}
use Rattle.engine_queues.specs.declared.jobs.Hand.{Hand}
use Rattle.engine_turns.specs.TableCalls.{on_table_of}
use Rattle.engine_turns.specs.Turns.{AnswersJob, means, outbox, standing}
use Rattle.engine_turns.proofs.Answering.{settled_by}
use Rattle.engine_turns.proofs.working.Worker.turn.Goals as goal

pub try_recv_as-requires-clause-rule : goal.try_recv_as-requires-clause-rule
try_recv_as-requires-clause-rule g c = (takes_one _ _ (let e = c.args.self.now.one_part in omega arith), λ items views b at. tt)

pub returns-in-Ok-clause-worked : goal.returns-in-Ok-clause-worked
returns-in-Ok-clause-worked g c settled e =
    let s = c.args.self.now in
    let a = c.meet-settled.new in
    let taken = c.in-Ok.ensures.rule in
    let same : c.meet-settled.result ≡ settled = ap settled_by e in
    record {
      job = c.in-Ok.job;
      answers = subst₂ (λ (h : Hand Job) (o : Option Settlement). AnswersJob (does g.C.Calls.gives g.D.Folders.keeps) s.session.settings s.number c.in-Ok.job (standing h (outbox (view s.reply_pass) s.handed_back) (means c.args.served.now c.args.share.now (on_table_of c.args.table_handle.now.thread_log))) o
          (standing (view a.self.job_pass) (outbox (view a.self.reply_pass) a.self.handed_back) (means a.served a.share (on_table_of a.table_handle.thread_log)))) taken same c.meet-settled.ensures.answers;
    }
