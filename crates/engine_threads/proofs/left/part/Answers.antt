use Rattle.engine_turns.specs.TableCalls.{on_table_of}
use Rattle.engine_threads.specs.Worked.{did, does_shared}
use Rattle.engine_threads.proofs.Each.{checked_off}
use Rattle.engine_threads.proofs.left.part.Goals as goal

pub returns-clause-worked : goal.returns-clause-worked
returns-clause-worked g c =
    let e = c.args.end in
    checked_off (does_shared g.C.Calls.gives) g.S.Workers.settings (did c.args.closed.now.table.log) g.S.Workers.given e.last_job.value e.passes e.calls e.kept.share (on_table_of e.thread_log) c.args.next c.wait_unless_next.ensures c.look.ensures.calls e.worked
