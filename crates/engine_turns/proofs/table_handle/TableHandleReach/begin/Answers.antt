use Rattle.std.proofs.Common.{ap}
use Rattle.table_steps.specs.World.{opened_world}
use Rattle.table_shared.specs.Runs.{began}
use Rattle.engine_turns.proofs.Stepping.{made}
use Rattle.engine_turns.specs.TableCalls.{Known, OnTable, turn_end_of}
use Rattle.engine_turns.proofs.table_handle.TableHandleReach.begin.Goals as goal

pub returns-clause-begins : goal.returns-clause-begins
returns-clause-begins g c =
    let old = c.args.self.now in
    (c.has_bits.ensures, ap (λ (on : OnTable). record { turn_end = turn_end_of old.turn_result; on_table = on }) (made (opened_world g.O.Opening.limits) (began c.args.unique c.args.want c.begin-begin.result) old.thread_log c.begin-begin.new.me c.begin-begin.ensures))
