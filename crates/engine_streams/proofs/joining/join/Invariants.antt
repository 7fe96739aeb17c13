use Rattle.std.proofs.Common.{◌≡◌, take}
use Rattle.std.specs.List.{flat_map}
use Rattle.engine.specs.Batches.{bytes_of}
use Rattle.engine_streams.proofs.joining.join.Given as goal

abbrev pub invariant-loop-count : goal.invariant-loop-count
invariant-loop-count l = l.joined.items ≡ flat_map bytes_of (take l.count l.frames)
