use Rattle.disk_folder.proofs.CacheLemmas.{held_place, if_none_at}
use Rattle.disk_folder.proofs.open_cache.OpenCache.child.Goals as goal

pub returns-in-Kept-clause-none : goal.returns-in-Kept-clause-none
returns-in-Kept-clause-none g c = λ up at.
    let place = held_place c.args.self.now c.args.folder.now c.in-Kept.place up c.in-Kept.is at in
    if_none_at c.child.result c.args.self.now _ _ c.child.ensures.kept (c.child.ensures.none up place)
