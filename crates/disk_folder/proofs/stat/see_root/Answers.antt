use Rattle.path_cache.specs.declared.places.Place.TheVariants as place
use Rattle.path_cache.proofs.CallerLemmas.{root_at}
use Rattle.disk_folder.specs.declared.opened.Held.TheVariants.{Kept}
use Rattle.disk_folder.proofs.StandLemmas.{held_stands}
use Rattle.disk_folder.proofs.SeenLemmas.{root_refused}
use Rattle.disk_folder.proofs.stat.see_root.Goals as goal

pub open-requires : goal.open-requires
open-requires g c = record { path = _; at = root_at c.args.cache.now.cache }

pub returns-clause-ok : goal.returns-clause-ok
returns-clause-ok g c = λ all.
    let cache = c.args.cache.now in
    c.look_open.ensures.ok _ (held_stands (g.D.Disk.tree c.args.disk.now) (g.D.Disk.stands c.args.disk.now) cache (Kept place.Root) _ c.open.result.now all (root_at cache.cache) tt c.open.ensures).handle

pub returns-clause-err : goal.returns-clause-err
returns-clause-err g c = λ all.
    let cache = c.args.cache.now in
    root_refused (g.D.Disk.tree c.args.disk.now) c.look_open.result (c.look_open.ensures.err _ (held_stands (g.D.Disk.tree c.args.disk.now) (g.D.Disk.stands c.args.disk.now) cache (Kept place.Root) _ c.open.result.now all (root_at cache.cache) tt c.open.ensures).handle)
