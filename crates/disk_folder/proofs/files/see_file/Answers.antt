use Rattle.disk_folder.proofs.SeenLemmas.{present_file, seen_file, seen_folder_refused, seen_neither_refused}
use Rattle.disk_folder.proofs.files.see_file.Goals as goal

pub returns-in-File-clause-ok : goal.returns-in-File-clause-ok
returns-in-File-clause-ok g c = λ all. seen_file (g.D.Disk.tree c.args.disk.now) c.args.path.now c.in-Ok.seen (c.in-Ok.ensures.ok all) c.in-File.is

pub returns-in-Folder-clause-err : goal.returns-in-Folder-clause-err
returns-in-Folder-clause-err g c = λ all. seen_folder_refused (g.D.Disk.tree c.args.disk.now) c.args.path.now c.in-Ok.seen (g.met.D.Disk.is_tree c.args.disk.now) (c.in-Ok.ensures.ok all) c.in-Folder.is

pub returns-in-Err-clause-err : goal.returns-in-Err-clause-err
returns-in-Err-clause-err g c = λ all. present_file (g.D.Disk.tree c.args.disk.now) c.args.path.now c.in-Err.trouble (c.in-Err.ensures.err all)

pub returns-in-Link-clause-err : goal.returns-in-Link-clause-err
returns-in-Link-clause-err g c = λ all. seen_neither_refused (g.D.Disk.tree c.args.disk.now) c.args.path.now c.in-Ok.seen (g.met.D.Disk.is_tree c.args.disk.now) (c.in-Ok.ensures.ok all) c.in-Link.is
