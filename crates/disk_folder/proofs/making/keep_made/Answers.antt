use Rattle.std.proofs.Common.{refl}
use Rattle.disk_folder.proofs.MakeEnds.{stand_kept}
use Rattle.disk_folder.proofs.making.keep_made.Goals as goal

pub returns-in-Ok-clause-stand : goal.returns-in-Ok-clause-stand
returns-in-Ok-clause-stand g c = λ up at there kind all. stand_kept (g.D.Disk.tree c.args.disk.now) (g.D.Disk.stands c.args.disk.now) c.args.cache.now c.keep.new.self _ _ c.args.handle (c.keep.ensures.keeps up at) (refl, refl) there kind all
