use Rattle.std.proofs.Common.{take}
use Rattle.std.specs.List.{AllZip}
use Rattle.table.specs.Copies.{IsCopyOf}
use Rattle.table.proofs.export.copy_records.Given as goal

abbrev pub invariant-loop-flight : goal.invariant-loop-flight
invariant-loop-flight l = AllZip IsCopyOf (take l.flight-index l.flights) l.records.items
