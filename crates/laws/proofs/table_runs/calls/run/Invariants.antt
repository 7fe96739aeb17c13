use Rattle.std.proofs.Common.{◌≡◌, ◌≤◌, ◌+◌, ◌++◌, drop, length, vec_capacity, vec_len}
use Rattle.std.specs.Vec.Iter.{into_iter_items, into_iter_len}
use Rattle.laws.proofs.Running.{HasRun}
use Rattle.laws.proofs.table_runs.calls.run.Given as goal
use Rattle.table_steps.specs.Kept.{world_of}

abbrev pub invariant-loop-next : goal.invariant-loop-next
invariant-loop-next g l = record {
  run : HasRun (world_of l.fn.table) l.fn.pending l.fn.share l.yielded (drop (length l.fn.told.items) l.told.items) (world_of l.table) l.pending l.share;
  told : l.told.items ≡ l.fn.told.items ++ drop (length l.fn.told.items) l.told.items;
  calls : l.fn.calls.items ≡ l.yielded ++ into_iter_items l.next-iterator;
  left : length (into_iter_items l.next-iterator) ≡ into_iter_len l.next-iterator;
  room : vec_len l.told + into_iter_len l.next-iterator ≤ vec_capacity l.told;
}
