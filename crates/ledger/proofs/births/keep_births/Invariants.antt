use Rattle.std.proofs.Common.{◌≡◌, take}
use Rattle.std.specs.Vec.{vec_len, vec_capacity}
use Rattle.ledger.proofs.births.keep_births.Given as goal

abbrev pub invariant-loop-of_number : goal.invariant-loop-of_number
invariant-loop-of_number l = record {
  kept : l.kept.items ≡ take l.of_number-index l.births;
  len : vec_len l.kept ≡ l.of_number-index;
  capacity : vec_capacity l.kept ≡ vec_capacity l.fn.kept;
}
