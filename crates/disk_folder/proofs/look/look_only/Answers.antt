use Rattle.disk_folder.proofs.StandLemmas.{folder_stands}
use Rattle.disk_folder.proofs.look.look_only.Goals as goal

pub returns-clause-ok : goal.returns-clause-ok
returns-clause-ok g c = λ up it. c.look_in.ensures.ok up (folder_stands (g.D.Disk.tree c.args.disk.now) (g.D.Disk.stands c.args.disk.now) c.args.cache.now c.args.entry.now.folder up c.open.result.now it c.open.ensures)

pub returns-clause-err : goal.returns-clause-err
returns-clause-err g c = λ up it. c.look_in.ensures.err up (folder_stands (g.D.Disk.tree c.args.disk.now) (g.D.Disk.stands c.args.disk.now) c.args.cache.now c.args.entry.now.folder up c.open.result.now it c.open.ensures)
