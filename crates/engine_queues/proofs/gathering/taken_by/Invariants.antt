use Rattle.std.specs.Prelude.{◌≡◌, ◌+◌, ◌<◌, ◌^◌, length, drop}
use Rattle.std.specs.List.{flat_map}
use Rattle.engine_queues.specs.Gathered.{takings_of}
use Rattle.engine_queues.proofs.gathering.taken_by.Given as goal

abbrev pub invariant-loop-worker : goal.invariant-loop-worker
invariant-loop-worker g l = record {
  sum : l.sum + length (flat_map (λ xs. xs) (takings_of (drop l.worker-index l.passes))) ≡ length (flat_map (λ xs. xs) (takings_of l.passes));
  small : l.sum < 2 ^ 64;
}
