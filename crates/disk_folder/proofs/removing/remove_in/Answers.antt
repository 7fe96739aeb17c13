use Rattle.disk_folder.proofs.RemoveEnds.{missing_ends, seen_folder_ends}
use Rattle.disk_folder.proofs.removing.remove_in.Goals as goal

pub returns-in-Folder-clause-ends : goal.returns-in-Folder-clause-ends
returns-in-Folder-clause-ends g c = λ up it. seen_folder_ends (g.D.Disk.tree c.args.disk.now) up c.args.entry.now.name.now c.in-Ok.seen (g.met.D.Disk.is_tree c.args.disk.now) it.folder (c.in-Ok.ensures.ok up it) c.in-Folder.is

pub returns-in-Err-clause-ends : goal.returns-in-Err-clause-ends
returns-in-Err-clause-ends g c = λ up it. missing_ends (g.D.Disk.tree c.args.disk.now) up c.args.entry.now.name.now c.in-Err.trouble (g.met.D.Disk.is_tree c.args.disk.now) it.folder (c.in-Err.ensures.err up it)

pub returns-in-File-clause-suits : goal.returns-in-File-clause-suits
returns-in-File-clause-suits g c = c.remove_file-in-File.ensures.suits

pub returns-in-File-clause-ends : goal.returns-in-File-clause-ends
returns-in-File-clause-ends g c = λ up it. c.remove_file-in-File.ensures.ends up (record { all = c.in-Ok.ensures.stand it.all; held_at = c.in-Ok.ensures.held up it.held_at; own = it.own; folder = it.folder })

pub returns-in-File-clause-stand : goal.returns-in-File-clause-stand
returns-in-File-clause-stand g c = λ up it. c.remove_file-in-File.ensures.stand up (record { all = c.in-Ok.ensures.stand it.all; held_at = c.in-Ok.ensures.held up it.held_at; own = it.own; folder = it.folder })
