use Rattle.std.proofs.Common.{sym, subst}
use Rattle.terms.specs.declared.settings.Settings.{Settings}
use Rattle.crossbeam_channel.specs.Claims.{view}
use Rattle.engine.specs.Serving.{does}
use Rattle.engine_turns.specs.TableCalls.{left_in, on_table_of, turn_end_of}
use Rattle.engine_turns.specs.Rights.{IsRight}
use Rattle.engine.specs.Batches.{bytes_of}
use Rattle.engine_turns.specs.ReplyBuffers.{bytes_in}
use Rattle.engine_turns.specs.Turns.{ByBoth, Met, PutsReply, ending, means, outbox}
use Rattle.engine_turns.proofs.Answering.{met_on, right_of}
use Rattle.engine_turns.proofs.working.Worker.meet.Goals as goal

pub put-requires : goal.put-requires
put-requires g c =
    let m = c.meet_job-said in
    record {
      countable = c.requires.countable;
      right = λ bytes is. subst (λ (s : Settings). IsRight s c.args.job.now (bytes_of bytes) (left_in (turn_end_of m.result.1))) (sym m.ensures.settings)
          (right_of (does g.C.Calls.gives g.D.Folders.keeps) c.args.self.now.session.settings c.args.job.now (means c.args.served.now c.args.share.now (on_table_of c.args.table_handle.now.thread_log)) (means m.new.served m.new.share (on_table_of m.new.table_handle.thread_log)) m.result.0 (turn_end_of m.result.1) bytes m.ensures.meets is);
    }

pub returns-clause-answers : goal.returns-clause-answers
returns-clause-answers g c =
    let m = c.meet_job-said in
    let met : Met = record { said = bytes_in m.result.0; turn_end = turn_end_of m.result.1 } in
    record {
      met = met;
      between = m.new.served.dirs;
      handled = on_table_of m.new.table_handle.thread_log;
      meets = met_on (does g.C.Calls.gives g.D.Folders.keeps) c.args.self.now.session.settings c.args.job.now (means c.args.served.now c.args.share.now (on_table_of c.args.table_handle.now.thread_log)) m.new.served m.new.share c.put.new.share (on_table_of m.new.table_handle.thread_log) met
          m.ensures.meets c.put.ensures.entries c.put.ensures.index;
      puts = subst (λ (s : Settings). ByBoth g.D.Folders.keeps m.new.served.dirs (on_table_of m.new.table_handle.thread_log) c.put.new.dirs (on_table_of c.put.new.table_handle.thread_log) (λ folders calls. PutsReply s c.args.self.now.number c.args.job.now met (outbox (view c.args.self.now.reply_pass) c.args.self.now.handed_back) (ending c.put.result folders calls) (outbox (view c.put.new.self.reply_pass) c.put.new.self.handed_back))) m.ensures.settings c.put.ensures.puts;
      hand_is = c.put.ensures.jobs.1;
    }
