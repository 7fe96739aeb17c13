use Rattle.std.proofs.Common.{take}
use Rattle.paths.specs.Prefixes.{Names}
use Rattle.disk.specs.Answers.{ListsNames}
use Rattle.disk_folder.specs.Listed.{AreSeen}
use Rattle.disk_folder.proofs.listing.look_all.Given as goal

abbrev pub invariant-loop-name : goal.invariant-loop-name
invariant-loop-name g l = record {
  seen : (p : Names) → g.D.Disk.stands l.disk l.folder p → ListsNames (g.D.Disk.tree l.disk) p l.names → AreSeen (g.D.Disk.tree l.disk) p (take l.name-index l.names) l.all.items;
}
