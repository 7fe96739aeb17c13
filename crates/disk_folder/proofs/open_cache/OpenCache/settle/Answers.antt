use Rattle.std.proofs.Common.{refl}
use Rattle.disk_folder.proofs.CacheLemmas.{held_place, settles_found}
use Rattle.disk_folder.proofs.open_cache.OpenCache.settle.Goals as goal

pub returns-else-is_same : goal.returns-else-is_same
returns-else-is_same g c = λ up at.
    let place = held_place c.args.self.now c.args.entry.now.folder c.in-Kept.folder up c.in-Kept.is at in
    settles_found c.args.self.now _ c.args.self.now.cache _ (λ p. refl) (λ other p there. there) (c.forget.ensures.kept up place) (c.forget.ensures.places up place)
