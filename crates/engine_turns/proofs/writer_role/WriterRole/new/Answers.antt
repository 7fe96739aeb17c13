use Rattle.std.proofs.Common.{ap, ap₂}
use Rattle.crossbeam_channel.specs.Claims.{view}
use Rattle.engine_turns.specs.TableCalls.{on_table_of}
use Rattle.engine_turns.specs.Writes.{writing}
use Rattle.engine_turns.proofs.HasWritten.{has_begun}
use Rattle.engine_turns.proofs.writer_role.WriterRole.new.Goals as goal

pub invariant_of-result : goal.invariant_of-result
invariant_of-result g c =
    let w = c.args.writer in
    let link = c.args.link in
    record {
      queue = c.requires.queue;
      made = ap (λ lane. lane.made) c.requires.fresh;
      index = ap (λ on_table. on_table.by) c.requires.thread_log;
      wrote = has_begun g.O.LinkOut.sends g.S.Sink.sent_to g.S.Sink.senders link (on_table_of c.args.thread_log) (writing (view w.pass) link w.is_broken) c.requires.from c.requires.thread_log (ap₂ (λ lane b. writing lane link b) c.requires.fresh c.requires.whole);
    }
