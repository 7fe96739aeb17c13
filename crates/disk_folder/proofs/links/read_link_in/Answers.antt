use Rattle.disk_folder.proofs.LinkEnds.{text_told}
use Rattle.disk_folder.proofs.StandLemmas.{folder_stands}
use Rattle.disk_folder.proofs.links.read_link_in.Goals as goal

pub returns-in-Ok-clause-ok : goal.returns-in-Ok-clause-ok
returns-in-Ok-clause-ok g c = λ up it.
    let at = g.D.Disk.tree c.args.disk.now in
    let there = folder_stands at (g.D.Disk.stands c.args.disk.now) c.args.cache.now c.args.entry.now.folder up c.open.result.now it c.open.ensures in
    text_told at _ _ c.answer_of.result (c.in-Ok.ensures up there) c.answer_of.ensures.ok

pub returns-in-Err-Absent-clause-err : goal.returns-in-Err-Absent-clause-err
returns-in-Err-Absent-clause-err g c = λ up it.
    let there = folder_stands (g.D.Disk.tree c.args.disk.now) (g.D.Disk.stands c.args.disk.now) c.args.cache.now c.args.entry.now.folder up c.open.result.now it c.open.ensures in
    rw c.in-Err-Absent.field-0-is at (c.in-Err-Absent.ensures up there)
