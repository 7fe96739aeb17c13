use Rattle.std.proofs.Common.{Option, sym, subst}
use Rattle.engine_turns.specs.declared.job.Job.{Job}
use Rattle.engine_turns.specs.TableCalls.{on_table_of}
use Rattle.engine_threads.specs.Worked.{AnswersLast, does_shared, stand_of}
use Rattle.engine_threads.proofs.Chains.{answers_one}
use Rattle.engine_threads.proofs.worker_end.answer.Goals as goal

pub returns-in-Worked-clause-answers : goal.returns-in-Worked-clause-answers
returns-in-Worked-clause-answers g c =
    let w = c.args.worker.now in
    let a = c.answer in
    let n = a.new in
    let old = stand_of w c.args.served.now.calls c.args.share.now (on_table_of c.args.table_handle.now.thread_log) in
    let new = stand_of n.self n.served.calls n.share (on_table_of n.table_handle.thread_log) in
    subst (λ (o : Option Job). AnswersLast (does_shared g.C.Calls.gives) w.session.settings w.number o old new) (sym c.in-Some.is)
    (answers_one (does_shared g.C.Calls.gives) w.session.settings w.number c.in-Some.job old new c.args.served.now.dirs n.served.dirs c.in-Worked._settled w.handed_back n.self.handed_back c.requires.none_back c.wait_if_returned.ensures (a.ensures.answers c.in-Worked._settled c.in-Worked.is))
