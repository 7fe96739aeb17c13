use Rattle.std.proofs.Common.{take}
use Rattle.disk_folder.specs.Standing.{AllStand, IsFolderAt, IsHeldAt}
use Rattle.disk_folder.proofs.walk.reach.Given as goal

abbrev pub invariant-loop-name : goal.invariant-loop-name
invariant-loop-name g l = record {
  held : IsHeldAt l.cache l.folder (take l.name-index l.names);
  folder : AllStand (g.D.Disk.tree l.disk) (g.D.Disk.stands l.disk) l.initial.cache → IsFolderAt (g.D.Disk.tree l.disk) (g.D.Disk.stands l.disk) l.cache l.folder (take l.name-index l.names);
}
