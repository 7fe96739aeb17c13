use Rattle.disk_folder.proofs.StandLemmas.{folder_keeps_all, held_keeps_all, stand_keeps_all}
use Rattle.disk_folder.proofs.attributes.open_seen.Goals as goal

pub returns-in-Some-clause-stand : goal.returns-in-Some-clause-stand
returns-in-Some-clause-stand g c = λ up it. stand_keeps_all (g.D.Disk.tree c.args.disk.now) (g.D.Disk.stands c.args.disk.now) c.args.cache.now c.child.new.self c.child.ensures.keeps it.all

pub returns-in-None-clause-own : goal.returns-in-None-clause-own
returns-in-None-clause-own g c = λ up it. c.open_alone.ensures.own up (folder_keeps_all (g.D.Disk.tree c.args.disk.now) (g.D.Disk.stands c.args.disk.now) c.args.cache.now c.child.new.self c.args.entry.now.folder up c.child.ensures.keeps it)

pub returns-in-None-clause-stand : goal.returns-in-None-clause-stand
returns-in-None-clause-stand g c = λ up it. c.open_alone.ensures.stand up (folder_keeps_all (g.D.Disk.tree c.args.disk.now) (g.D.Disk.stands c.args.disk.now) c.args.cache.now c.child.new.self c.args.entry.now.folder up c.child.ensures.keeps it)

pub returns-in-None-clause-folder : goal.returns-in-None-clause-folder
returns-in-None-clause-folder g c = λ up at. c.open_alone.ensures.folder up (held_keeps_all c.args.cache.now c.child.new.self c.args.entry.now.folder up c.child.ensures.keeps at)
