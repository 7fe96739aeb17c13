use Rattle.std.proofs.Common.{take}
use Rattle.table_image.proofs.Exported.{ListsHeld}
use Rattle.table.specs.Copies.{exclusive_in_all, sharers_in}
use Rattle.table.proofs.Holders.{AreCovered}
use Rattle.table.proofs.export.copy_holds.Given as goal

abbrev pub invariant-loop-flight : goal.invariant-loop-flight
invariant-loop-flight l = record {
  lists : ListsHeld (sharers_in l.flights.flights) (exclusive_in_all l.flights.flights) l.holds.items;
  covered : AreCovered l.holds.items (take l.flight-index l.flight-items);
}
