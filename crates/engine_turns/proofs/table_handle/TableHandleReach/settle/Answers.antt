use Rattle.std.proofs.Common.{◌≡◌, Bool, true, false, refl, sym, ap, ◌∙◌, arith, rules}
use Rattle.table_steps.specs.Answers.{Settlement}
use Rattle.table_steps.specs.World.{opened_world}
use Rattle.table_shared.specs.Runs.{settled}
use Rattle.engine_turns.proofs.Stepping.{made}
use Rattle.engine_turns.specs.TableCalls as known_table
use Rattle.engine_turns.specs.TableCalls.{known, on_table_of, settlement_of, settling, then_made}
use Rattle.engine_turns.proofs.table_handle.TableHandleReach.settle.Goals as goal

pub returns-then-taken-clause-settles : goal.returns-then-taken-clause-settles
returns-then-taken-clause-settles g c =
    let is : c.args.taken ≡ true = search rules in
    let old = c.args.self.now in
    sym (ap (λ (b : Bool). settling (known old.turn_result old.thread_log) c.args.answered c.args.put b) is)

pub returns-then-taken-clause-gains : goal.returns-then-taken-clause-gains
returns-then-taken-clause-gains g c =
    let held = ap known_table.listed c.requires.holds in
    record { entries = omega arith; index = refl; by_is = refl }

pub returns-else-taken-clause-settles : goal.returns-else-taken-clause-settles
returns-else-taken-clause-settles g c =
    let is : c.args.taken ≡ false = search rules in
    let old = c.args.self.now in
    let s = c.settle-settled in
    let on : on_table_of s.new.me ≡ then_made (on_table_of old.thread_log) (settled c.args.answered false (settlement_of c.args.answered false)) =
    made (opened_world g.O.Opening.limits) (settled c.args.answered false s.result) old.thread_log s.new.me s.ensures.makes ∙ ap (λ (t : Settlement). then_made (on_table_of old.thread_log) (settled c.args.answered false t)) s.ensures.settled in
    (λ i. record { turn_end = known_table.Settled (s.ensures.settled i); on_table = on i }) ∙ sym (ap (λ (b : Bool). settling (known old.turn_result old.thread_log) c.args.answered c.args.put b) is)

pub returns-else-taken-clause-gains : goal.returns-else-taken-clause-gains
returns-else-taken-clause-gains g c =
    let held = ap known_table.listed c.requires.holds in
    let e = c.settle-settled.ensures.entries in
    let n = ap (λ (s : Settlement). s.entries) c.settle-settled.ensures.settled in
    record { entries = omega arith; index = c.settle-settled.ensures.index; by_is = c.settle-settled.ensures.makes.index }
