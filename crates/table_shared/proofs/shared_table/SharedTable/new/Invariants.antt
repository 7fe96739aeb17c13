use Rattle.std.specs.Prelude.{◌≡◌, ◌≤◌, [], map, vec_len, vec_capacity}
use Rattle.std.specs.List.{range_with_len}
use Rattle.shared_history.specs.Views.{thread_log}
use Rattle.table_shared.proofs.shared_table.SharedTable.new.Given as goal

abbrev pub invariant-loop : goal.invariant-loop
invariant-loop g l = record {
  thread_logs : l.thread_logs.items ≡ map (λ index. thread_log index [] []) (range_with_len 0 l.counter);
  log : l.table.log ≡ [];
  given : l.table.given ≡ l.counter;
  len : vec_len l.thread_logs ≡ l.counter;
  room : l.threads ≤ vec_capacity l.thread_logs;
}
