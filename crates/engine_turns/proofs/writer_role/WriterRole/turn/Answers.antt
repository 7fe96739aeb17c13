use Rattle.std.proofs.Common.{◌≡◌, Some, sym, ap, ◌∙◌}
use Rattle.crossbeam_channel.specs.Claims.{view}
use Rattle.engine_turns.specs.TableCalls.{on_table_of}
use Rattle.engine_turns.specs.Batches.{endings}
use Rattle.engine_turns.specs.Writes.{writing}
use Rattle.engine_turns.proofs.HasWritten.{has_written_on}
use Rattle.engine_turns.proofs.writer_role.WriterRole.turn.Goals as goal

pub invariant_of-self : goal.invariant_of-self
invariant_of-self g c =
    let s = c.args.self.now in
    let n = c.turns.new in
    let by = c.turns.ensures.wrote in
    record {
      queue = s.queue ∙ ap (λ q. Some q) (sym c.turns.ensures.queue);
      made = c.turns.ensures.made ∙ s.made;
      index = ap (λ on_table. on_table.by) by.on_table ∙ s.index;
      wrote = has_written_on g.O.LinkOut.sends g.S.Sink.sent_to g.S.Sink.senders (on_table_of s.thread_log) (on_table_of n.thread_log) (writing (view s.writer.pass) s.link s.writer.is_broken) (writing (view n.self.pass) n.link n.self.is_broken)
          (endings n.self.batch.settled.items by.folders by.calls) s.wrote by.on_table by.so;
    }
