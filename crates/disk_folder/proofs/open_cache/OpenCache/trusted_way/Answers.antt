use Rattle.std.proofs.Common.{refl, inl}
use Rattle.path_cache.proofs.CallerLemmas.{root_at}
use Rattle.disk_folder.proofs.open_cache.OpenCache.trusted_way.Goals as goal

pub loop-name-init : goal.loop-name-init
loop-name-init g c = record { found = root_at c.args.self.now.cache; kind = inl refl }
