use Rattle.std.proofs.Common.{◌++◌, ◌∷◌, []}
use Rattle.backing.proofs.Lawful.{some_item}
use Rattle.disk_folder.proofs.StandLemmas.{folder_stands}
use Rattle.disk_folder.proofs.renaming.is_taken.Goals as goal

pub returns-in-Some-clause-ok : goal.returns-in-Some-clause-ok
returns-in-Some-clause-ok g c = λ up it.
    let there = folder_stands (g.D.Disk.tree c.args.disk.now) (g.D.Disk.stands c.args.disk.now) c.args.cache.now c.args.entry.now.folder up c.open.result.now it c.open.ensures in
    let seen = c.in-Ok.ensures up there in
    some_item (g.D.Disk.tree c.args.disk.now (up ++ c.args.entry.now.name.now ∷ [])) seen.item seen.stands

pub returns-in-Err-Absent-clause-ok : goal.returns-in-Err-Absent-clause-ok
returns-in-Err-Absent-clause-ok g c = λ up it.
    let there = folder_stands (g.D.Disk.tree c.args.disk.now) (g.D.Disk.stands c.args.disk.now) c.args.cache.now c.args.entry.now.folder up c.open.result.now it c.open.ensures in
    rw c.in-Err-Absent.field-0-is at (c.in-Err-Absent.ensures up there)
