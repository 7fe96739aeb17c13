use Rattle.std.proofs.Common.{◌≡◌, Option, ap, subst}
use Rattle.table_steps.specs.Answers.{Settlement}
use Rattle.crossbeam_channel.specs.Claims.{view}
use Rattle.engine.specs.Serving.{does}
use Rattle.engine_turns.specs.TableCalls.{on_table_of}
use Rattle.engine_turns.specs.Turns.{AnswersJob, means, outbox, standing}
use Rattle.engine_turns.proofs.Answering.{settled_by}
use Rattle.engine_turns.proofs.working.Worker.answer.Goals as goal

pub returns-clause-answers : goal.returns-clause-answers
returns-clause-answers g c settled e =
    let s = c.args.self.now in
    let m = c.meet in
    let same : m.result ≡ settled = ap settled_by e in
    subst (λ (o : Option Settlement). AnswersJob (does g.C.Calls.gives g.D.Folders.keeps) s.session.settings s.number c.args.job.now (standing (view s.job_pass) (outbox (view s.reply_pass) s.handed_back) (means c.args.served.now c.args.share.now (on_table_of c.args.table_handle.now.thread_log))) o
    (standing (view m.new.self.job_pass) (outbox (view m.new.self.reply_pass) m.new.self.handed_back) (means m.new.served m.new.share (on_table_of m.new.table_handle.thread_log)))) same m.ensures.answers
