use Rattle.std.proofs.Common.{◌≡◌, ◌+◌, [], false, Option, refl, sym, ap, ◌∙◌, subst}
use Rattle.std.specs.Option.{option_or}
use Rattle.table_steps.specs.Answers.{Settlement}
use Rattle.engine_queues.proofs.ReplySteps.{posts}
use Rattle.engine_queues.specs.declared.replies.ReplyLane.{ReplyLane}
use Rattle.engine_turns.specs.declared.replies.JobReply.{JobReply}
use Rattle.engine.specs.Batches.{bytes_of}
use Rattle.engine_turns.specs.TableCalls.{left_in, on_table_of, turn_end_of}
use Rattle.engine_turns.specs.ReplyBuffers.{bytes_in}
use Rattle.engine_turns.specs.Turns.{IsEnded, ended_as, ending, handed_back, is_put, none, outbox}
use Rattle.engine_queues.specs.declared.left.Left.{Left}
use Rattle.engine_queues.specs.declared.replies.QueuedReply.{QueuedReply}
use Rattle.engine_turns.proofs.Answering.{none_more}
use Rattle.engine_turns.proofs.working.Worker.put.Goals as goal

pub returns-in_default-clause-puts : goal.returns-in_default-clause-puts
returns-in_default-clause-puts g c = record { folders = []; chain = refl; calls = []; on_table = none_more (on_table_of c.args.table_handle.now.thread_log); so = none (ap bytes_in c.in_default.is) refl c.into_parts-left.ensures.settled refl refl }

pub send_as-requires-clause-rule : goal.send_as-requires-clause-rule
send_as-requires-clause-rule g c = (posts _ _ _ _ c.args.self.now.sends (sym c.args.self.now.from), λ items views b at. tt)

pub returns-in-Ok-clause-puts : goal.returns-in-Ok-clause-puts
returns-in-Ok-clause-puts g c =
    let r = c.new.ensures in
    record {
      folders = [];
      chain = refl;
      calls = [];
      on_table = none_more (on_table_of c.args.table_handle.now.thread_log);
      so = is_put (bytes_of c.in-Some.bytes) (record { from = c.args.self.now.number; reply = c.new.result }) (ap bytes_in c.in-Some.is)
          (record { from_is = refl; settings_are = r.0; job_is = r.1; bytes_are = ap bytes_of r.2; left_is = r.3 ∙ c.into_parts-left.ensures.left })
          (ap (λ (l : ReplyLane JobReply). outbox l c.args.self.now.handed_back) c.in-Ok.ensures.rule) c.into_parts-left.ensures.settled refl refl;
    }

pub returns-in-Err-clause-puts : goal.returns-in-Err-clause-puts
returns-in-Err-clause-puts g c =
    let back = c.into_inner-reply.ensures ∙ c.in-Err.ensures.rule.0 in
    let left : c.into_left-left.result ≡ left_in (turn_end_of c.args.turn_result) = c.into_left-left.ensures ∙ (ap (λ (q : QueuedReply JobReply). q.reply.left) back ∙ (c.new.ensures.3 ∙ c.into_parts-left.ensures.left)) in
    let up = c.settle_left-untaken.ensures.ends in
    let so = subst (λ (o : Option Left). IsEnded o false (ending c.settle_left-untaken.result up.folders up.calls)) left up.so in
    record {
      folders = up.folders;
      chain = up.chain;
      calls = up.calls;
      on_table = up.on_table;
      so = handed_back (bytes_of c.in-Some.bytes) (ap bytes_in c.in-Some.is) (ap (λ (l : ReplyLane JobReply). outbox l (c.args.self.now.handed_back + 1)) c.in-Err.ensures.rule.1) (c.or.ensures ∙ (ap (λ (o : Option Settlement). option_or o c.into_parts-left.result.1) so.settled_is ∙ ap (λ (o : Option Settlement). option_or (ended_as (left_in (turn_end_of c.args.turn_result)) false) o) c.into_parts-left.ensures.settled)) so.gives_up so.settles;
    }
