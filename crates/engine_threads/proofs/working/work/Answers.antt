use Rattle.std.proofs.Common.{◌∙◌, refl, sym, ap, subst}
use Rattle.engine_turns.specs.TableCalls.{OnTable, on_table_of}
use Rattle.engine_threads.specs.Worked.{HasWorkedSo, does_shared}
use Rattle.engine_threads.proofs.Chains.{goes_on}
use Rattle.engine_threads.proofs.working.work.Goals as goal

pub loop-init : goal.loop-init
loop-init g c =
    let r = c.args.role in
    record {
      jobs = refl;
      replies = refl;
      none_back = r.none_back;
      worked = subst (λ (o : OnTable). ∥ HasWorkedSo (does_shared g.C.Calls.gives) g.S.Workers.settings g.S.Workers.given r.worker r.calls r.kept.share o ∥₁) (sym (ap on_table_of c.new-table_handle.ensures)) r.worked;
    }

pub loop-preserved-then-take_turns : goal.loop-preserved-then-take_turns
loop-preserved-then-take_turns g c =
    let l = c.loop in
    let i = l.invariant in
    let t = c.take_turns in
    let n = t.new in
    record {
      jobs = t.ensures.queues.0 ∙ i.jobs;
      replies = t.ensures.queues.1 ∙ i.replies;
      none_back = t.ensures.none_back;
      worked = goes_on (does_shared g.C.Calls.gives) g.S.Workers.settings g.S.Workers.given l.worker n.worker l.served.calls n.served.calls l.kept.share n.kept.share (on_table_of l.table_handle.thread_log) (on_table_of n.table_handle.thread_log)
          t.ensures.queues.2 t.ensures.settings t.ensures.worked i.worked;
    }

pub again-requires-clause-worked : goal.again-requires-clause-worked
again-requires-clause-worked g c =
    let l = c.loop in
    let t = c.take_turns in
    let n = t.new in
    subst (λ (o : OnTable). ∥ HasWorkedSo (does_shared g.C.Calls.gives) g.S.Workers.settings g.S.Workers.given n.worker n.served.calls n.kept.share o ∥₁) (sym (ap on_table_of c.into_log.ensures))
    (goes_on (does_shared g.C.Calls.gives) g.S.Workers.settings g.S.Workers.given l.worker n.worker l.served.calls n.served.calls l.kept.share n.kept.share (on_table_of l.table_handle.thread_log) (on_table_of n.table_handle.thread_log)
    t.ensures.queues.2 t.ensures.settings t.ensures.worked l.invariant.worked)

pub loop-preserved : goal.loop-preserved
loop-preserved g c =
    let l = c.loop in
    let i = l.invariant in
    let t = c.take_turns in
    let n = t.new in
    record {
      jobs = t.ensures.queues.0 ∙ i.jobs;
      replies = t.ensures.queues.1 ∙ i.replies;
      none_back = t.ensures.none_back;
      worked = goes_on (does_shared g.C.Calls.gives) g.S.Workers.settings g.S.Workers.given l.worker n.worker l.served.calls n.served.calls l.kept.share n.kept.share (on_table_of l.table_handle.thread_log) (on_table_of n.table_handle.thread_log)
          t.ensures.queues.2 t.ensures.settings t.ensures.worked i.worked;
    }
