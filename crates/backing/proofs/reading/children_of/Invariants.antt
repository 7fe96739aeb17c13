use Rattle.std.proofs.Common.{take}
use Rattle.backing.proofs.Listing.{Listed}
use Rattle.backing.proofs.reading.children_of.Given as goal

abbrev pub invariant-loop-entry : goal.invariant-loop-entry
invariant-loop-entry l = Listed (take l.entry-index l.entries) l.folder l.list.items
