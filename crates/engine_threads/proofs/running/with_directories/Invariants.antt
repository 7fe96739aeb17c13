use Rattle.std.specs.Prelude.{◌≡◌, ◌+◌, ◌≤◌, ◌++◌, List, length, map, vec_len, vec_capacity}
use Rattle.std.specs.List.{All, range_with_len}
use Rattle.std.specs.Vec.Iter.{into_iter_items, into_iter_len}
use Rattle.engine_turns.specs.TableCalls.{on_table_of}
use Rattle.engine_threads.specs.Beginning.{IsReadyHere}
use Rattle.engine_threads.proofs.running.with_directories.Given as goal

abbrev pub invariant-loop-one : goal.invariant-loop-one
invariant-loop-one g l =
    let rest = into_iter_items l.one-iterator in
    let left = into_iter_items l.left in
    record {
      ready : All (λ w. IsReadyHere g.S.Workers.work g.S.Workers.answers g.S.Workers.settings w.worker w.kept.share (on_table_of w.thread_log)) rest;
      numbers : map (λ w. w.worker.number) rest ≡ range_with_len (vec_len l.roles) (length rest);
      given : (before : List g.row.C.Denot) × (g.S.Workers.given ≡ before ++ left) × (length before ≡ vec_len l.roles);
      each : length left ≡ length rest;
      len : vec_len l.roles + into_iter_len l.one-iterator ≡ vec_len l.fn.workers;
      lens : into_iter_len l.one-iterator ≡ length rest;
      room : vec_len l.fn.workers ≤ vec_capacity l.roles;
    }
