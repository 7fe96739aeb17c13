use Rattle.std.proofs.Common.{◌≡◌, ◌∙◌, ap, sym}
use Rattle.engine_turns.specs.TableCalls.{Fresh, on_table_of, turn_end_of}
use Rattle.engine_turns.proofs.JobsMet.{gains_as, known_same, meets_as, writes_of}
use Rattle.engine_turns.proofs.meeting.meet_job.Goals as goal

pub returns-clause-meets : goal.returns-clause-meets
returns-clause-meets g c =
    let h = c.handle_frame.ensures.handled in
    let before = known_same _ Fresh _ (on_table_of c.args.table_handle.now.thread_log) c.take_end.ensures.fresh (ap on_table_of c.take_end.ensures.thread_log) in
    let after = known_same _ (turn_end_of c.take_end-2.result) _ (on_table_of c.take_end-2.new.self.thread_log) (ap turn_end_of (sym c.take_end-2.ensures.end)) (ap on_table_of (sym c.take_end-2.ensures.thread_log)) in
    record {
      turn = h.turn;
      handled = record {
        frame_is = h.frame_is ∙ c.classed_frame.ensures.frame;
        now = c.handle_frame.new.self.agreed;
        meets = meets_as c.args.session.now.settings h.turn c.args.job.now.agreed c.handle_frame.new.self.agreed _ _ _ _ before after h.meets;
      };
      draws = h.draws;
      writes = writes_of _ _ _ _ c.new-reply_buffer.ensures c.into_parts-said.ensures h.passes;
      gains = gains_as _ _ _ _ _ _ before after c.handle_frame.ensures.gains;
    }
