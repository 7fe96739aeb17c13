use Rattle.std.proofs.Common.{ap, arith}
use Rattle.table_steps.specs.Answers.{Answer, entries_in}
use Rattle.table_steps.specs.World.{opened_world}
use Rattle.table_shared.specs.Runs.{finished}
use Rattle.engine_turns.proofs.Stepping.{made}
use Rattle.engine_turns.specs.TableCalls as known_table
use Rattle.engine_turns.proofs.table_handle.TableHandleReach.finish.Goals as goal

pub returns-clause-finishes : goal.returns-clause-finishes
returns-clause-finishes g c =
    let told = ap known_table.Given c.of.ensures in
    let on = made (opened_world g.O.Opening.limits) (finished c.args.ticket.id c.args.outcome c.finish-answered.result) c.args.self.now.thread_log c.finish-answered.new.me c.finish-answered.ensures.makes in
    λ i. record { turn_end = told i; on_table = on i }

pub returns-clause-holds : goal.returns-clause-holds
returns-clause-holds g c = ap known_table.Given c.of.ensures

pub returns-clause-gains : goal.returns-clause-gains
returns-clause-gains g c =
    let e = c.finish-answered.ensures.entries in
    let free = ap known_table.listed c.requires.free in
    let given = ap (λ (a : Answer). entries_in a.given) c.of.ensures in
    record { entries = omega arith; index = c.finish-answered.ensures.index; by_is = c.finish-answered.ensures.makes.index }
