use Rattle.std.proofs.Common.{◌∙◌, refl}
use Rattle.engine_turns.specs.TableCalls.{on_table_of}
use Rattle.engine_threads.specs.Worked.{does_shared, stand_of}
use Rattle.engine_threads.proofs.Chains.{works_more, works_none}
use Rattle.engine_threads.proofs.turns.take_turns.Goals as goal

pub loop-init : goal.loop-init
loop-init g c =
    let w = c.args.worker.now in
    let from = stand_of w c.args.served.now.calls c.args.kept.now.share (on_table_of c.args.table_handle.now.thread_log) in
    record { jobs = refl; replies = refl; number = refl; settings = refl; none_back = c.requires.none_back; worked = works_none (does_shared g.C.Calls.gives) w.session.settings w.number from from refl }

pub loop-preserved : goal.loop-preserved
loop-preserved g c =
    let w = c.args.worker.now in
    let l = c.loop in
    let i = l.invariant in
    let t = c.turn in
    let n = t.new in
    let one = c.in-Worked._settled in
    record {
      jobs = t.ensures.queues.0 ∙ i.jobs;
      replies = t.ensures.queues.1 ∙ i.replies;
      number = t.ensures.queues.2 ∙ i.number;
      settings = t.ensures.settings ∙ i.settings;
      none_back = c.wait_if_returned.ensures;
      worked = works_more (does_shared g.C.Calls.gives) w.session.settings w.number l.worker.session.settings l.worker.number (stand_of w c.args.served.now.calls c.args.kept.now.share (on_table_of c.args.table_handle.now.thread_log))
          (stand_of l.worker l.served.calls l.kept.share (on_table_of l.table_handle.thread_log)) (stand_of n.self n.served.calls n.share (on_table_of n.table_handle.thread_log)) l.served.dirs n.served.dirs one l.worker.handed_back n.self.handed_back
          i.settings i.number i.none_back c.wait_if_returned.ensures i.worked (t.ensures.worked one c.in-Worked.is);
    }
