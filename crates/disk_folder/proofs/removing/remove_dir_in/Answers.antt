use Rattle.disk_folder.proofs.StandLemmas.{folder_stands}
use Rattle.disk_folder.proofs.RemoveEnds.{not_removed_dir_ends, not_removed_dir_left, removed_dir_ends, removed_dir_left}
use Rattle.disk_folder.proofs.removing.remove_dir_in.Goals as goal

pub returns-in-Ok-clause-ends : goal.returns-in-Ok-clause-ends
returns-in-Ok-clause-ends g c = λ up it.
    let at = g.D.Disk.tree c.args.disk.now in
    let there = folder_stands at (g.D.Disk.stands c.args.disk.now) c.args.cache.now c.args.entry.now.folder up c.open.result.now it c.open.ensures in
    removed_dir_ends at _ _ _ up c.args.entry.now.name.now (g.met.D.Disk.is_tree c.args.disk.now) it.folder (c.in-Ok.ensures up there)

pub returns-in-Ok-clause-stand : goal.returns-in-Ok-clause-stand
returns-in-Ok-clause-stand g c = λ up it.
    let at = g.D.Disk.tree c.args.disk.now in
    let there = folder_stands at (g.D.Disk.stands c.args.disk.now) c.args.cache.now c.args.entry.now.folder up c.open.result.now it c.open.ensures in
    removed_dir_left at _ _ _ c.args.cache.now _ _ (c.forget.ensures up it.held_at) (c.in-Ok.ensures up there) it.all

pub returns-in-Err-clause-ends : goal.returns-in-Err-clause-ends
returns-in-Err-clause-ends g c = λ up it.
    let at = g.D.Disk.tree c.args.disk.now in
    let there = folder_stands at (g.D.Disk.stands c.args.disk.now) c.args.cache.now c.args.entry.now.folder up c.open.result.now it c.open.ensures in
    not_removed_dir_ends at (g.D.Disk.tree c.remove_dir.new.self) (g.D.Disk.stands c.args.disk.now) (g.D.Disk.stands c.remove_dir.new.self) up c.args.entry.now.name.now c.in-Err.error c.why_dir_stays-why.result (g.met.D.Disk.is_tree c.args.disk.now) it.folder (c.in-Err.ensures up there) c.why_dir_stays-why.ensures

pub returns-in-Err-clause-stand : goal.returns-in-Err-clause-stand
returns-in-Err-clause-stand g c = λ up it.
    let at = g.D.Disk.tree c.args.disk.now in
    let there = folder_stands at (g.D.Disk.stands c.args.disk.now) c.args.cache.now c.args.entry.now.folder up c.open.result.now it c.open.ensures in
    not_removed_dir_left at _ (g.D.Disk.stands c.args.disk.now) (g.D.Disk.stands c.remove_dir.new.self) c.args.cache.now _ _ c.in-Err.error (c.forget-in-Err.ensures up it.held_at) (c.in-Err.ensures up there) it.all
