use Rattle.std.proofs.Common.{◌++◌, ◌∷◌, [], take}
use Rattle.paths.specs.Prefixes.{Name}
use Rattle.backing.specs.Tree.{Resolves}
use Rattle.disk_folder.specs.Standing.{AllStand, IsFolderAt, IsHeldAt, KeepsAll}
use Rattle.disk_folder.proofs.beside.reach_beside.Given as goal

abbrev pub invariant-loop-name : goal.invariant-loop-name
invariant-loop-name g l = record {
  keeps : KeepsAll l.initial.cache l.cache;
  held : IsHeldAt l.cache l.folder (take l.name-index l.names);
  folder : (name : Name) → AllStand (g.D.Disk.tree l.disk) (g.D.Disk.stands l.disk) l.initial.cache → Resolves (g.D.Disk.tree l.disk) (l.names ++ name ∷ []) → IsFolderAt (g.D.Disk.tree l.disk) (g.D.Disk.stands l.disk) l.cache l.folder (take l.name-index l.names);
}
