use Rattle.std.proofs.Common.{take}
use Rattle.table_image.proofs.Exported.{ListsHeld, Stores}
use Rattle.table.specs.Copies.{exclusive_in_all, sharers_in}
use Rattle.table.proofs.export.add_paths.Given as goal

abbrev pub invariant-loop-path : goal.invariant-loop-path
invariant-loop-path l = record {
  lists : ListsHeld (sharers_in l.flights.flights) (exclusive_in_all l.flights.flights) l.holds.items;
  stores : Stores l.fn.holds.items l.holds.items (take l.path-index l.paths);
}
