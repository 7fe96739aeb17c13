use Rattle.disk_folder.proofs.StandLemmas.{kept_folder}
use Rattle.disk_folder.proofs.walk.enter.Goals as goal

pub returns-in-Some-clause-ok : goal.returns-in-Some-clause-ok
returns-in-Some-clause-ok g c = λ up it. kept_folder (g.D.Disk.tree c.args.disk.now) (g.D.Disk.stands c.args.disk.now) c.args.cache.now c.in-Some.place _ it.all (c.in-Some.ensures.found up it.held_at) c.in-Some.ensures.kind
