use Rattle.std.proofs.Common.{◌∙◌, refl, sym, ap, subst}
use Rattle.engine_turns.specs.TableCalls.{OnTable, on_table_of}
use Rattle.engine_threads.specs.Worked.{HasWorkedSo, does_shared, stand_of}
use Rattle.engine_threads.proofs.Chains.{goes_on, stand_same, works_more, works_none}
use Rattle.engine_threads.proofs.alone.work_alone.Goals as goal

pub loop-init : goal.loop-init
loop-init g c =
    let r = c.args.role in
    record {
      jobs = refl;
      replies = refl;
      none_back = r.none_back;
      worked = subst (λ (o : OnTable). ∥ HasWorkedSo (does_shared g.C.Calls.gives) g.S.Workers.settings g.S.Workers.given r.worker r.calls r.kept.share o ∥₁) (sym (ap on_table_of c.new-table_handle.ensures)) r.worked;
    }

pub loop-preserved-in-Worked : goal.loop-preserved-in-Worked
loop-preserved-in-Worked g c =
    let l = c.loop in
    let i = l.invariant in
    let t = c.turn in
    let n = t.new in
    let one = c.in-Worked._settled in
    let from = stand_of l.worker l.served.calls l.kept.share (on_table_of l.table_handle.thread_log) in
    record {
      jobs = t.ensures.queues.0 ∙ i.jobs;
      replies = t.ensures.queues.1 ∙ i.replies;
      none_back = c.wait_if_returned.ensures;
      worked = goes_on (does_shared g.C.Calls.gives) g.S.Workers.settings g.S.Workers.given l.worker n.self l.served.calls n.served.calls l.kept.share n.share (on_table_of l.table_handle.thread_log) (on_table_of n.table_handle.thread_log)
          t.ensures.queues.2 t.ensures.settings
          (works_more (does_shared g.C.Calls.gives) l.worker.session.settings l.worker.number l.worker.session.settings l.worker.number from from (stand_of n.self n.served.calls n.share (on_table_of n.table_handle.thread_log)) l.served.dirs n.served.dirs one l.worker.handed_back n.self.handed_back
          refl refl i.none_back c.wait_if_returned.ensures (works_none (does_shared g.C.Calls.gives) l.worker.session.settings l.worker.number from from refl) (t.ensures.worked one c.in-Worked.is))
          i.worked;
    }

pub loop-preserved-then-not-writer : goal.loop-preserved-then-not-writer
loop-preserved-then-not-writer g c =
    let l = c.loop in
    let i = l.invariant in
    let t = c.turn in
    let n = t.new in
    let same = t.ensures.nothing c.in-Nothing.is in
    record {
      jobs = t.ensures.queues.0 ∙ i.jobs;
      replies = t.ensures.queues.1 ∙ i.replies;
      none_back = same.2 ∙ i.none_back;
      worked = goes_on (does_shared g.C.Calls.gives) g.S.Workers.settings g.S.Workers.given l.worker n.self l.served.calls n.served.calls l.kept.share n.share (on_table_of l.table_handle.thread_log) (on_table_of n.table_handle.thread_log)
          t.ensures.queues.2 t.ensures.settings
          (works_none (does_shared g.C.Calls.gives) l.worker.session.settings l.worker.number _ _ (stand_same _ _ _ _ _ _ _ _ _ _ same.0 same.1 (ap (λ d. d.calls) same.4) same.3 (ap (λ h. on_table_of h.thread_log) same.5)))
          i.worked;
    }

pub loop-preserved : goal.loop-preserved
loop-preserved g c =
    let l = c.loop in
    let i = l.invariant in
    let t = c.turn in
    let n = t.new in
    let same = t.ensures.nothing c.in-Nothing.is in
    record {
      jobs = t.ensures.queues.0 ∙ i.jobs;
      replies = t.ensures.queues.1 ∙ i.replies;
      none_back = same.2 ∙ i.none_back;
      worked = goes_on (does_shared g.C.Calls.gives) g.S.Workers.settings g.S.Workers.given l.worker n.self l.served.calls n.served.calls l.kept.share n.share (on_table_of l.table_handle.thread_log) (on_table_of n.table_handle.thread_log)
          t.ensures.queues.2 t.ensures.settings
          (works_none (does_shared g.C.Calls.gives) l.worker.session.settings l.worker.number _ _ (stand_same _ _ _ _ _ _ _ _ _ _ same.0 same.1 (ap (λ d. d.calls) same.4) same.3 (ap (λ h. on_table_of h.thread_log) same.5)))
          i.worked;
    }

pub again-role-requires-clause-worked : goal.again-role-requires-clause-worked
again-role-requires-clause-worked g c =
    let l = c.loop in
    let t = c.turn in
    let n = t.new in
    let same = t.ensures.nothing c.in-Nothing.is in
    subst (λ (o : OnTable). ∥ HasWorkedSo (does_shared g.C.Calls.gives) g.S.Workers.settings g.S.Workers.given n.self n.served.calls n.share o ∥₁) (sym (ap on_table_of c.into_log.ensures))
    (goes_on (does_shared g.C.Calls.gives) g.S.Workers.settings g.S.Workers.given l.worker n.self l.served.calls n.served.calls l.kept.share n.share (on_table_of l.table_handle.thread_log) (on_table_of n.table_handle.thread_log)
    t.ensures.queues.2 t.ensures.settings
    (works_none (does_shared g.C.Calls.gives) l.worker.session.settings l.worker.number _ _ (stand_same _ _ _ _ _ _ _ _ _ _ same.0 same.1 (ap (λ d. d.calls) same.4) same.3 (ap (λ h. on_table_of h.thread_log) same.5)))
    l.invariant.worked)
