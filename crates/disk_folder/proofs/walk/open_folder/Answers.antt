use Rattle.disk_folder.proofs.StandLemmas.{folder_stands, opened_folder}
use Rattle.disk_folder.proofs.WayLemmas.{none_blocks}
use Rattle.disk_folder.proofs.walk.open_folder.Goals as goal

pub returns-in-Ok-clause-ok : goal.returns-in-Ok-clause-ok
returns-in-Ok-clause-ok g c = λ up it.
    let at = g.D.Disk.tree c.args.disk.now in
    let stands = g.D.Disk.stands c.args.disk.now in
    let there = folder_stands at stands c.args.cache.now c.args.entry.now.folder up c.open.result.now it c.open.ensures in
    opened_folder at stands _ c.in-Ok.handle c.identified.result c.identified.ensures.ok (c.in-Ok.ensures up there)

pub returns-in-Err-Absent-clause-err : goal.returns-in-Err-Absent-clause-err
returns-in-Err-Absent-clause-err g c = λ up it.
    let at = g.D.Disk.tree c.args.disk.now in
    let stands = g.D.Disk.stands c.args.disk.now in
    let there = folder_stands at stands c.args.cache.now c.args.entry.now.folder up c.open.result.now it c.open.ensures in
    none_blocks at _ (rw c.in-Err-Absent.field-0-is at (c.in-Err-Absent.ensures up there))
