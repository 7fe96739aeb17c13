use Rattle.std.proofs.Common.{◌≡◌, ◌≤◌, ◌+◌, ◌*◌, ◌++◌, take, vec_len}
use Rattle.std.specs.Prelude.{vec_capacity}
use Rattle.wire.specs.Written.{u16s}
use Rattle.wire.proofs.put.put_u16s.Given as goal

abbrev pub invariant-loop-n : goal.invariant-loop-n
invariant-loop-n l = record {
  items : l.out.items ≡ l.fn.out.items ++ u16s (take l.n-index l.numbers);
  len : vec_len l.out ≡ vec_len l.fn.out + 2 * l.n-index;
  capacity : vec_capacity l.fn.out ≤ vec_capacity l.out;
}
