use Rattle.disk_folder.proofs.AttributeEnds.{done_as}
use Rattle.disk_folder.proofs.StandLemmas.{folder_stands}
use Rattle.disk_folder.proofs.attributes.set_by_name.Goals as goal

pub returns-clause-set : goal.returns-clause-set
returns-clause-set g c = λ up it.
    let there = folder_stands (g.D.Disk.tree c.args.disk.now) (g.D.Disk.stands c.args.disk.now) c.args.cache.now c.args.entry.now.folder up c.open.result.now it c.open.ensures in
    done_as c.set_at.result c.done.result _ c.done.ensures.ok c.done.ensures.err (c.set_at.ensures up there)
