use Rattle.std.proofs.Common.{ap}
use Rattle.table_steps.specs.World.{opened_world}
use Rattle.table_shared.specs.Runs.{looked}
use Rattle.engine_turns.proofs.Stepping.{made}
use Rattle.engine_turns.specs.TableCalls.{Known, OnTable, turn_end_of}
use Rattle.engine_turns.proofs.table_handle.TableHandleReach.find.Goals as goal

pub returns-clause-finds : goal.returns-clause-finds
returns-clause-finds g c =
    let old = c.args.self.now in
    ap (λ (on : OnTable). record { turn_end = turn_end_of old.turn_result; on_table = on }) (made (opened_world g.O.Opening.limits) (looked c.args.fh c.find.result) old.thread_log c.find.new.me c.find.ensures)
