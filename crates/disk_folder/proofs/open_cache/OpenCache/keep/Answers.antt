use Rattle.disk_folder.proofs.CacheLemmas.{held_place, keeps_one}
use Rattle.disk_folder.proofs.open_cache.OpenCache.keep.Goals as goal

pub returns-in-Some-clause-keeps : goal.returns-in-Some-clause-keeps
returns-in-Some-clause-keeps g c = λ up at.
    let place = held_place c.args.self.now c.args.entry.now.folder c.in-Kept.folder up c.in-Kept.is at in
    keeps_one c.args.self.now _ _ c.args.opened (c.in-Some.ensures.kept up place)
