use Rattle.disk_folder.proofs.CacheLemmas.{held_live}
use Rattle.disk_folder.proofs.open_cache.OpenCache.open.Goals as goal

pub value-requires : goal.value-requires
value-requires g c = held_live c.args.self.now c.args.held.now c.in-Kept.place c.requires.path c.in-Kept.is c.requires.at
