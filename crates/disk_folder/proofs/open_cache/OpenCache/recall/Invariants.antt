use Rattle.std.proofs.Common.{take}
use Rattle.path_cache.specs.Cache.{IsAt}
use Rattle.disk_folder.specs.Standing.{KeepsAll}
use Rattle.disk_folder.proofs.open_cache.OpenCache.recall.Given as goal

abbrev pub invariant-loop-name : goal.invariant-loop-name
invariant-loop-name g l = record {
  keeps : KeepsAll l.fn.self l.self;
  found : IsAt l.self.cache l.place (take l.name-index l.names);
}
