use Rattle.std.proofs.Common.{◌∙◌, sym, ap, arith}
use Rattle.crossbeam_channel.specs.Ends.{sends_on}
use Rattle.engine_turns.specs.TableCalls.{idle, on_table_of}
use Rattle.engine_turns.specs.Writes.{none_got}
use Rattle.engine_threads.specs.Beginning.{IsReadyAt}
use Rattle.engine_threads.specs.declared.preparing.ReadyWorker.{ReadyWorker}
use Rattle.engine_threads.proofs.Lists.{all_so}
use Rattle.engine_threads.proofs.preparing.prepare.Goals as goal

pub invariant_of-reader : goal.invariant_of-reader
invariant_of-reader g c =
    let r = c.in_ok-jobs.field-0.reader in
    record { within = r.within; room_len = r.room_len; stopped_by = r.stopped_by; seated = r.seated; some_part = r.some_part; takes_none = r.takes_none; counted = r.counted; numbered = r.numbered }

pub invariant_of-result : goal.invariant_of-result
invariant_of-result g c =
    let w = c.in_ok-workers.ensures in
    let j = c.in_ok-jobs.ensures in
    let r = c.in_ok-replies.ensures in
    let s = c.in_ok-shared_table.ensures in
    let One : Type 0 = ReadyWorker g.row.T.Denot g.row.N.Denot in
    let P : One → Type 0 = λ (v : One). IsReadyAt (sends_on c.in_ok-job_ends.job_ends.jobs) (sends_on c.in_ok-reply_ends.reply_ends.replies) c.args.settings v.worker v.kept.share (on_table_of v.thread_log) in
    let Q : One → Type 0 = λ (v : One). IsReadyAt (sends_on c.in_ok-jobs.field-0.jobs) (sends_on c.in_ok-replies.field-0.replies) c.args.settings v.worker v.kept.share (on_table_of v.thread_log) in
    let jobs = sym (j.queue.0 ∙ w.queues.0) in
    let replies = sym (r.queue.0 ∙ w.queues.1) in
    record {
      ready = all_so P Q c.in_ok-workers.workers.items (λ (v : One) (h : P v). record { takes_from = h.takes_from ∙ jobs; puts_into = h.puts_into ∙ replies; settings_are = h.settings_are; ready = h.ready }) w.ready;
      numbers = w.numbers;
      reads = j.queue.1 ∙ sym j.queue.0;
      parts = (let a = j.parts in let b = w.made.0 in omega arith);
      unread = j.unread;
      writes = r.queue.1 ∙ sym r.queue.0;
      unsent = r.unsent.0 ∙ ap none_got w.made.1;
      whole = r.unsent.1;
      idle = s.writer ∙ ap idle (sym (w.len ∙ s.len));
    }
