use Rattle.std.proofs.Common.{◌≡◌, sym, subst}
use Rattle.crossbeam_channel.specs.Claims.{view}
use Rattle.engine_queues.specs.declared.replies.ReplyLane.{ReplyLane}
use Rattle.engine_turns.specs.TableCalls.{on_table_of}
use Rattle.engine_turns.specs.declared.replies.JobReply.{JobReply}
use Rattle.engine_turns.specs.Writes.{HasWritten, writing}
use Rattle.engine_turns.proofs.writer_role.WriterRole.into_end.Goals as goal

pub returns-clause-wrote : goal.returns-clause-wrote
returns-clause-wrote g c =
    let s = c.args.self in
    subst (λ (lane : ReplyLane JobReply). ∥ HasWritten g.O.LinkOut.sends g.S.Sink.sent_to g.S.Sink.senders (on_table_of s.thread_log) (writing lane s.link s.writer.is_broken) ∥₁) (sym c.into_pass.ensures.pass) s.wrote
