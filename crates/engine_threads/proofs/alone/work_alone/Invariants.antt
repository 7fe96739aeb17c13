use Rattle.std.specs.Prelude.{◌≡◌}
use Rattle.crossbeam_channel.specs.Ends.{sends_on, receives_on}
use Rattle.engine_turns.specs.TableCalls.{on_table_of}
use Rattle.engine_threads.specs.Worked.{HasWorkedSo, does_shared}
use Rattle.engine_threads.proofs.alone.work_alone.Given as goal

-- so far
abbrev pub invariant-loop : goal.invariant-loop
invariant-loop g l =
    let w = l.fn.role.worker in
    record {
      jobs : receives_on l.worker.jobs ≡ receives_on w.jobs;
      replies : sends_on l.worker.replies ≡ sends_on w.replies;
      none_back : l.worker.handed_back ≡ 0;
      worked : ∥ HasWorkedSo (does_shared g.C.Calls.gives) g.S.Workers.settings g.S.Workers.given l.worker l.served.calls l.kept.share (on_table_of l.table_handle.thread_log) ∥₁;
    }
