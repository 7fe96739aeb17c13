use Rattle.disk_folder.proofs.SeenLemmas.{entry_refused}
use Rattle.disk_folder.proofs.stat.see_below.Goals as goal

pub returns-in-Ok-clause-err : goal.returns-in-Ok-clause-err
returns-in-Ok-clause-err g c = λ all.
    let it = c.in-Ok.ensures.ok all in
    entry_refused (g.D.Disk.tree c.args.disk.now) c.args.path.now it.up c.in-Ok.entry.name.now c.look_at.result (g.met.D.Disk.is_tree c.args.disk.now) it.whole it.folder.folder (c.look_at.ensures.err it.up it.folder)
