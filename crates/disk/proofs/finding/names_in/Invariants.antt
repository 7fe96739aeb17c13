use Rattle.std.proofs.Common.{take}
use Rattle.disk.specs.Spots.{entries_of}
use Rattle.disk.proofs.Naming.{Listed}
use Rattle.disk.proofs.finding.names_in.Given as goal

abbrev pub invariant-loop-spot : goal.invariant-loop-spot
invariant-loop-spot l = Listed (take l.spot-index (entries_of l.spots)) l.folder l.names.items
