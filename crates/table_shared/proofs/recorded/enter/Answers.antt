use Rattle.std.proofs.Common.{refl, ap, sym, ◌∙◌}
use Rattle.table_steps.specs.Kept.{world_of}
use Rattle.table_steps.specs.World.{opened_world}
use Rattle.table_shared.specs.Runs.{call_of, end_of}
use Rattle.table_shared.specs.declared.entries.LogEntry.{LogEntry}
use Rattle.table_shared.proofs.Running.{end_more, makes, run_on}
use Rattle.table_shared.proofs.recorded.enter.Goals as goal

pub record-requires : goal.record-requires
record-requires g c =
    let start = opened_world g.O.Opening.limits in
    let entry : LogEntry g.row.T.Denot = record { event = c.args.event; after = c.of.result } in
    record { lawful = run_on start c.args.whole_log.now.log c.args.me.now.by entry (world_of c.args.table.now) (ap world_of (sym c.of.ensures)) c.attest.ensures.lawful c.requires c.attest-2.ensures }

pub returns-clause-makes : goal.returns-clause-makes
returns-clause-makes g c =
    let start = opened_world g.O.Opening.limits in
    let entry : LogEntry g.row.T.Denot = record { event = c.args.event; after = c.of.result } in
    makes start (call_of c.args.event) c.args.whole_log.now.log c.args.me.now c.record.new.me entry refl c.record.ensures.begins c.record.ensures.thread
    (run_on start c.args.whole_log.now.log c.args.me.now.by entry (world_of c.args.table.now) (ap world_of (sym c.of.ensures)) c.attest.ensures.lawful c.requires c.attest-2.ensures)

pub returns-clause-end : goal.returns-clause-end
returns-clause-end g c =
    let start = opened_world g.O.Opening.limits in
    let entry : LogEntry g.row.T.Denot = record { event = c.args.event; after = c.of.result } in
    ap world_of (sym c.of.ensures) ∙ sym (ap (end_of start) c.record.ensures.log ∙ end_more start c.args.whole_log.now.log (c.args.me.now.by, entry))
