use Rattle.std.specs.Prelude.{◌≡◌, ◌+◌, ◌≤◌, vec_len, vec_capacity}
use Rattle.std.specs.Vec.Iter.{into_iter_len}
use Rattle.engine_threads.proofs.threads.join_all.Given as goal

abbrev pub invariant-loop-one : goal.invariant-loop-one
invariant-loop-one g l = record {
  len : vec_len l.ended + into_iter_len l.one-iterator ≡ vec_len l.fn.started;
  room : vec_len l.fn.started ≤ vec_capacity l.ended;
}
