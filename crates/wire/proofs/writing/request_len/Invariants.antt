use Rattle.std.proofs.Common.{◌≡◌, ◌+◌, length, take}
use Rattle.wire.specs.Rows.{parts_bytes}
use Rattle.wire.proofs.writing.request_len.Given as goal

abbrev pub invariant-loop-part : goal.invariant-loop-part
invariant-loop-part l = record {
  len : l.len ≡ 40 + length (parts_bytes (take l.part-index l.parts));
}
