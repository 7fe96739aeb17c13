use Rattle.disk_folder.proofs.StandLemmas.{stand_keeps}
use Rattle.disk_folder.proofs.attributes.open_alone.Goals as goal

pub returns-in-Ok-clause-stand : goal.returns-in-Ok-clause-stand
returns-in-Ok-clause-stand g c = λ up it. stand_keeps (g.D.Disk.tree c.args.disk.now) (g.D.Disk.stands c.args.disk.now) c.args.cache.now c.hold.new.self _ c.in-Ok.opened (c.hold.ensures.keeps up it.held_at) (c.in-Ok.ensures.ok up it).standing it.all

pub returns-in-Ok-open_same_folder-clause-stand : goal.returns-in-Ok-open_same_folder-clause-stand
returns-in-Ok-open_same_folder-clause-stand g c = λ up it. stand_keeps (g.D.Disk.tree c.args.disk.now) (g.D.Disk.stands c.args.disk.now) c.args.cache.now c.hold-in-Ok-open_same_folder.new.self _ c.in-Ok-open_same_folder.opened (c.hold-in-Ok-open_same_folder.ensures.keeps up it.held_at) (c.in-Ok-open_same_folder.ensures.ok up it).standing it.all
