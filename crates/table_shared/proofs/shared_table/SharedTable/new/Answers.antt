use Rattle.std.proofs.Common.{◌≡◌, ◌+◌, ap, ◌∙◌, rules}
use Rattle.table_shared.proofs.Meeting.{thread_logs_more}
use Rattle.table_shared.proofs.shared_table.SharedTable.new.Goals as goal

pub loop-preserved : goal.loop-preserved
loop-preserved g c =
    let i = c.loop.invariant in
    record {
      thread_logs = thread_logs_more c.loop.thread_logs.items c.push_reserved.new.self.items c.loop.table.log c.loop.counter c.loop.table.given c.thread.result c.push_reserved.ensures.items i.thread_logs i.log i.given c.thread.ensures.thread;
      log = c.thread.ensures.whole_log.0 ∙ i.log;
      given = c.thread.ensures.whole_log.1 ∙ ap (λ k. k + 1) i.given;
      len = search rules;
      room = search rules;
    }

pub returns : goal.returns
returns g c = let here : c.loop.counter ≡ c.args.threads = search rules in rw (← here) c.loop.invariant.thread_logs
