use Rattle.disk_folder.proofs.LinkEnds.{read_link_ends}
use Rattle.disk_folder.proofs.links.read_link.Goals as goal

pub returns-in-Ok-clause-ends : goal.returns-in-Ok-clause-ends
returns-in-Ok-clause-ends g c = λ all.
    let it = c.in-Ok.ensures.ok all in
    read_link_ends (g.D.Disk.tree c.args.disk.now) c.args.path.now it.up c.in-Ok.entry.name.now c.read_link_in.result (g.met.D.Disk.is_tree c.args.disk.now) it.whole it.folder.folder (c.read_link_in.ensures.ok it.up it.folder) (c.read_link_in.ensures.err it.up it.folder)
