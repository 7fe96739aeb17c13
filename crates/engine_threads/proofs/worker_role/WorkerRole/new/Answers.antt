use Rattle.engine_turns.specs.TableCalls.{on_table_of}
use Rattle.engine_threads.specs.Worked.{does_shared}
use Rattle.engine_threads.proofs.Chains.{has_begun}
use Rattle.engine_threads.proofs.worker_role.WorkerRole.new.Goals as goal

pub invariant_of-result : goal.invariant_of-result
invariant_of-result g c =
    let h = c.requires.ready in
    record {
      work = h.takes_from;
      answers = h.puts_into;
      none_back = h.ready.none_back;
      worked = has_begun (does_shared g.C.Calls.gives) g.S.Workers.settings g.S.Workers.given c.args.worker c.args.calls c.args.kept.share (on_table_of c.args.thread_log) h.settings_are c.requires.first h.ready;
    }
