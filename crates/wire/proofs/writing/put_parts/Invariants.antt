use Rattle.std.proofs.Common.{◌≡◌, ◌≤◌, ◌+◌, ◌++◌, length, take, vec_len}
use Rattle.std.specs.Prelude.{vec_capacity}
use Rattle.wire.specs.Rows.{parts_bytes}
use Rattle.wire.proofs.writing.put_parts.Given as goal

abbrev pub invariant-loop-part : goal.invariant-loop-part
invariant-loop-part l = record {
  items : l.out.items ≡ l.fn.out.items ++ parts_bytes (take l.part-index l.parts);
  len : vec_len l.out ≡ vec_len l.fn.out + length (parts_bytes (take l.part-index l.parts));
  capacity : vec_capacity l.fn.out ≤ vec_capacity l.out;
}
