use Rattle.disk_folder.proofs.CacheLemmas.{forgets_own, held_own, held_place}
use Rattle.disk_folder.proofs.open_cache.OpenCache.forget.Goals as goal

pub returns-in-Kept : goal.returns-in-Kept
returns-in-Kept g c = λ up at.
    let place = held_place c.args.self.now c.args.entry.now.folder c.in-Kept.folder up c.in-Kept.is at in
    record { kept = c.forget.ensures.kept up place; places = c.forget.ensures.places up place }

pub returns-in-Own : goal.returns-in-Own
returns-in-Own g c = λ up at. forgets_own c.args.self.now up c.args.entry.now.name.now (held_own c.args.self.now c.args.entry.now.folder _ up c.in-Own.is at)
