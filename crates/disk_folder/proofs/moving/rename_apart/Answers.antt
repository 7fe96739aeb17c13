use Rattle.disk_folder.proofs.MoveEnds.{stopped_ends}
use Rattle.disk_folder.proofs.moving.rename_apart.Goals as goal

pub returns-in-Err-clause-ends : goal.returns-in-Err-clause-ends
returns-in-Err-clause-ends g c = λ all some. stopped_ends (g.D.Disk.tree c.args.disk.now) c.args.from.now c.args.to.now c.in-Err.trouble (g.met.D.Disk.is_tree c.args.disk.now) c.requires some (c.in-Err.ensures.err all)
