use Rattle.std.proofs.Common.{◌≡◌, ◌∙◌, ◌+◌, ◌++◌, ◌∷◌, [], ℕ, suc, List, length, map, vec_len, sym, ap, arith}
use Rattle.std.specs.List.{range_with_len}
use Rattle.std.specs.Vec.Iter.{into_iter_items}
use Rattle.crossbeam_channel.specs.Ends.{sends_on}
use Rattle.engine_turns.specs.TableCalls.{idle, on_table_of}
use Rattle.engine_threads.specs.Beginning.{IsReadyAt}
use Rattle.engine_threads.specs.declared.preparing.ReadyWorker.{ReadyWorker}
use Rattle.engine_threads.proofs.Lists.{in_step, map_last, one_more, range_more}
use Rattle.engine_threads.proofs.preparing.ready_workers.Goals as goal

pub loop-thread_log-preserved : goal.loop-thread_log-preserved
loop-thread_log-preserved g c =
    let l = c.loop-thread_log in
    let i = c.loop-thread_log.invariant in
    let s = c.in-Some.ensures.steps in
    let e = c.in_ok-worker.ensures in
    let one = c.in_ok-worker.worker in
    let p = c.push_reserved in
    let from = into_iter_items c.loop-thread_log.thread_log-iterator in
    let rest = into_iter_items c.next.new.self in
    let n = vec_len c.loop-thread_log.workers in
    let One : Type 0 = ReadyWorker g.row.T.Denot g.row.N.Denot in
    let number : One → ℕ = λ (v : One). v.worker.number in
    let Q : One → Type 0 = λ (v : One). IsReadyAt (sends_on c.args.job_ends.now.jobs) (sends_on c.args.reply_ends.now.replies) c.args.settings v.worker v.kept.share (on_table_of v.thread_log) in
    let first : n ≡ 0 + n = omega arith in
    let fewer : length from ≡ suc (length rest) = ap length s.0 in
    let more : suc n ≡ vec_len p.new.self = (let a = p.ensures.len in omega arith) in
    let next : n + 1 ≡ vec_len p.new.self = (let a = p.ensures.len in omega arith) in
    let bears : number one ≡ 0 + n = e.number ∙ (i.counts.0 ∙ first) in
    let steps = in_step on_table_of idle c.in-Some.thread_log n from rest (range_with_len n (length from)) (range_with_len (n + 1) (length rest)) s.0 (ap (range_with_len n) fewer) i.idle in
    record {
      queues = (e.queues.0 ∙ i.queues.0, e.queues.1 ∙ i.queues.1);
      counts = ((let a = e.made.0 in let b = i.counts.0 in let d = p.ensures.len in omega arith), (let a = e.made.1 in let b = i.counts.1 in let d = p.ensures.len in omega arith));
      ready = one_more Q l.workers.items p.new.self.items one p.ensures.items i.ready
          (record { takes_from = e.ready.takes_from ∙ i.queues.0; puts_into = e.ready.puts_into ∙ i.queues.1; settings_are = e.ready.settings_are; ready = e.ready.ready });
      numbers = ap (map number) p.ensures.items
          ∙ (map_last number l.workers.items one
          ∙ (ap (λ (k : List ℕ). k ++ number one ∷ []) i.numbers ∙ (ap (λ (k : ℕ). range_with_len 0 n ++ k ∷ []) bears ∙ (sym (range_more 0 n) ∙ ap (range_with_len 0) more))));
      idle = steps.1 ∙ ap (λ (k : ℕ). map idle (range_with_len k (length rest))) next;
      shares = e.shares;
      len = (let a = p.ensures.len in let b = s.1 in let d = i.len in omega arith);
      lens = (let m : length from ≡ suc (length rest) = fewer in let k = s.1 in let d = i.lens in omega arith);
      room = (let a = p.ensures.capacity in let b = i.room in omega arith);
    }
