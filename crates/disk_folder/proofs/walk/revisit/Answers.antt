use Rattle.disk_folder.proofs.StandLemmas.{stand_keeps_all}
use Rattle.disk_folder.proofs.walk.revisit.Goals as goal

pub returns-in-None-clause-stand : goal.returns-in-None-clause-stand
returns-in-None-clause-stand g c = λ all. stand_keeps_all (g.D.Disk.tree c.args.disk.now) (g.D.Disk.stands c.args.disk.now) c.args.cache.now c.child.new.self c.child.ensures.keeps all

pub returns-in-Some-clause-stand : goal.returns-in-Some-clause-stand
returns-in-Some-clause-stand g c = λ all. c.look_again.ensures.stand (stand_keeps_all (g.D.Disk.tree c.args.disk.now) (g.D.Disk.stands c.args.disk.now) c.args.cache.now c.child.new.self c.child.ensures.keeps all)
