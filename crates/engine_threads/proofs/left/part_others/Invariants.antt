use Rattle.std.specs.Prelude.{◌≡◌, ◌+◌, ◌≤◌, None, length, vec_len, vec_capacity}
use Rattle.std.specs.List.{All, range_with_len}
use Rattle.std.specs.Vec.Iter.{into_iter_items, into_iter_len}
use Rattle.engine_queues.specs.Gathered.{numbers_of}
use Rattle.engine_threads.specs.Worked.{AreSeatedAt, did, does_shared}
use Rattle.engine_threads.proofs.Each.{Others}
use Rattle.engine_threads.proofs.left.part_others.Given as goal

abbrev pub invariant-loop-end : goal.invariant-loop-end
invariant-loop-end g l =
    let rest = into_iter_items l.end-iterator in
    record {
      count : vec_len l.passes + into_iter_len l.end-iterator ≡ vec_len l.fn.ends;
      each : vec_len l.calls ≡ vec_len l.passes;
      rest_len : into_iter_len l.end-iterator ≡ length rest;
      room : (vec_len l.fn.ends ≤ vec_capacity l.passes) × (vec_len l.fn.ends ≤ vec_capacity l.calls);
      capacity : (vec_capacity l.passes ≡ vec_capacity l.fn.parted.passes) × (vec_capacity l.calls ≡ vec_capacity l.fn.parted.calls);
      none : All (λ e. e.last_job.value ≡ None) rest;
      numbers : numbers_of l.passes.items ≡ range_with_len 0 (vec_len l.passes);
      seats : AreSeatedAt g.S.Workers.work g.S.Workers.answers l.passes.items;
      worked : Others (does_shared g.C.Calls.gives) g.S.Workers.settings (did l.closed.table.log) g.S.Workers.given (vec_len l.passes) l.passes.items l.calls.items;
      same : l.closed.table.log ≡ l.initial.closed.table.log;
    }
