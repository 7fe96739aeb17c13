use Rattle.std.specs.Prelude.{◌≡◌, ◌+◌, ◌≤◌, length, map, vec_len, vec_capacity}
use Rattle.std.specs.List.{All, range_with_len}
use Rattle.std.specs.Vec.Iter.{into_iter_items, into_iter_len}
use Rattle.crossbeam_channel.specs.Ends.{sends_on}
use Rattle.ledger.specs.Shares.{nothing}
use Rattle.engine_turns.specs.TableCalls.{idle, on_table_of}
use Rattle.engine_threads.specs.Beginning.{IsReadyAt}
use Rattle.engine_threads.proofs.preparing.ready_workers.Given as goal

abbrev pub invariant-loop-thread_log : goal.invariant-loop-thread_log
invariant-loop-thread_log g l =
    let rest = into_iter_items l.thread_log-iterator in
    let count = vec_len l.workers in
    record {
      queues : (sends_on l.job_ends.jobs ≡ sends_on l.initial.job_ends.jobs) × (sends_on l.reply_ends.replies ≡ sends_on l.initial.reply_ends.replies);
      counts : (l.job_ends.made ≡ count) × (l.reply_ends.made ≡ count);
      ready : All (λ w. IsReadyAt (sends_on l.initial.job_ends.jobs) (sends_on l.initial.reply_ends.replies) l.fn.settings w.worker w.kept.share (on_table_of w.thread_log)) l.workers.items;
      numbers : map (λ w. w.worker.number) l.workers.items ≡ range_with_len 0 count;
      idle : map on_table_of rest ≡ map idle (range_with_len count (length rest));
      shares : All (λ p. p.totals ≡ nothing) l.shares.shares.items;
      len : count + into_iter_len l.thread_log-iterator ≡ vec_len l.fn.thread_logs;
      lens : into_iter_len l.thread_log-iterator ≡ length rest;
      room : 4 ≤ vec_capacity l.workers;
    }
