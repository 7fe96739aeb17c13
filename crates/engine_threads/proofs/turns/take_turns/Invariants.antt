use Rattle.std.specs.Prelude.{◌≡◌}
use Rattle.crossbeam_channel.specs.Ends.{sends_on, receives_on}
use Rattle.engine_turns.specs.TableCalls.{on_table_of}
use Rattle.engine_threads.specs.Worked.{WorksOn, does_shared, stand_of}
use Rattle.engine_threads.proofs.turns.take_turns.Given as goal

-- so far
abbrev pub invariant-loop : goal.invariant-loop
invariant-loop g l =
    let w = l.fn.worker in
    record {
      jobs : receives_on l.worker.jobs ≡ receives_on w.jobs;
      replies : sends_on l.worker.replies ≡ sends_on w.replies;
      number : l.worker.number ≡ w.number;
      settings : l.worker.session.settings ≡ w.session.settings;
      none_back : l.worker.handed_back ≡ 0;
      worked : WorksOn (does_shared g.C.Calls.gives) w.session.settings w.number (stand_of w l.fn.served.calls l.fn.kept.share (on_table_of l.fn.table_handle.thread_log)) (stand_of l.worker l.served.calls l.kept.share (on_table_of l.table_handle.thread_log));
    }
