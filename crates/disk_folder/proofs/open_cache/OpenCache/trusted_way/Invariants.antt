use Rattle.std.proofs.Common.{◌≡◌, ◌⊎◌, [], Some, take}
use Rattle.payload.specs.declared.attributes.Kind.TheVariants as kinds
use Rattle.path_cache.specs.Cache.{IsAt}
use Rattle.disk_folder.specs.Standing.{kind_at}
use Rattle.disk_folder.proofs.open_cache.OpenCache.trusted_way.Given as goal

abbrev pub invariant-loop-name : goal.invariant-loop-name
invariant-loop-name g l = record {
  found : IsAt l.self.cache l.place (take l.name-index l.names);
  kind : (take l.name-index l.names ≡ []) ⊎ (kind_at l.self l.place ≡ Some kinds.Folder);
}
