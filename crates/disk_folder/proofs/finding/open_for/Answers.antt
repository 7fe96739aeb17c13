use Rattle.disk_folder.proofs.StandLemmas.{folder_stands, opened_file}
use Rattle.disk_folder.proofs.finding.open_for.Goals as goal

pub returns-in-Ok-clause-ok : goal.returns-in-Ok-clause-ok
returns-in-Ok-clause-ok g c = λ up it.
    let at = g.D.Disk.tree c.args.disk.now in
    let stands = g.D.Disk.stands c.args.disk.now in
    let there = folder_stands at stands c.args.cache.now c.args.entry.now.folder up c.open.result.now it c.open.ensures in
    opened_file at stands _ c.in-Ok.handle c.identified.result c.identified.ensures.ok (c.in-Ok.ensures up there)
