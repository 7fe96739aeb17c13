use Rattle.std.proofs.Common.{◌≡◌, ◌+◌, drop, map}
use Rattle.engine.specs.Batches.{bytes_of}
use Rattle.engine_streams.specs.Joining.{whole_in}
use Rattle.engine_streams.proofs.joining.whole_in.Given as goal

-- the replies before are complete, and of the others as many as in the remaining bytes
abbrev pub invariant-loop-count : goal.invariant-loop-count
invariant-loop-count l = l.count + whole_in (map bytes_of (drop l.count l.frames)) l.left ≡ whole_in (map bytes_of l.frames) l.fn.written
