use Rattle.std.proofs.Common.{ap}
use Rattle.table_steps.specs.World.{opened_world}
use Rattle.table_shared.specs.Runs.{forgot}
use Rattle.engine_turns.proofs.Stepping.{made}
use Rattle.engine_turns.specs.TableCalls.{Known, OnTable, turn_end_of}
use Rattle.engine_turns.proofs.table_handle.TableHandleReach.forget.Goals as goal

pub returns-clause-forgets : goal.returns-clause-forgets
returns-clause-forgets g c =
    let old = c.args.self.now in
    (c.forget.result, ap (λ (on : OnTable). record { turn_end = turn_end_of old.turn_result; on_table = on }) (made (opened_world g.O.Opening.limits) (forgot c.args.number c.args.n c.forget.result) old.thread_log c.forget.new.me c.forget.ensures.makes))
