use Rattle.disk_folder.proofs.MoveEnds.{target_led}
use Rattle.disk_folder.proofs.renaming.expect_target.Goals as goal

pub returns-in-Ok-clause-ok : goal.returns-in-Ok-clause-ok
returns-in-Ok-clause-ok g c = λ all.
    let it = c.in-Ok.ensures.ok all in
    target_led (g.D.Disk.tree c.args.disk.now) c.args.to.now it.up c.in-Ok.target.name.now c.expect_shown.result (g.met.D.Disk.is_tree c.args.disk.now) it.whole it.folder.folder
