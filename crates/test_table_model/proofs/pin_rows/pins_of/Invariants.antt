use Rattle.std.proofs.Common.{◌≡◌, ◌+◌, length}
use Rattle.test_table_model.proofs.pin_rows.pins_of.Given as goal

abbrev pub invariant-loop-number : goal.invariant-loop-number
invariant-loop-number l = l.pins.room + l.number-index ≡ length l.numbers
