use Rattle.disk_folder.proofs.StandLemmas.{folder_stands}
use Rattle.disk_folder.proofs.MakeEnds.{made_stand, make_link_ends, no_link_made, not_made_stand}
use Rattle.disk_folder.proofs.links.make_text.Goals as goal

pub returns-in-Ok-clause-ends : goal.returns-in-Ok-clause-ends
returns-in-Ok-clause-ends g c = λ up it.
    let at = g.D.Disk.tree c.args.disk.now in
    let there = folder_stands at (g.D.Disk.stands c.args.disk.now) c.args.cache.now c.args.entry.now.folder up c.open.result.now it c.open.ensures in
    make_link_ends at _ _ _ up c.args.entry.now.name.now c.args.text.now (g.met.D.Disk.is_tree c.args.disk.now) it.folder (c.in-Ok.ensures up there)

pub returns-in-Ok-clause-stand : goal.returns-in-Ok-clause-stand
returns-in-Ok-clause-stand g c = λ up it.
    let at = g.D.Disk.tree c.args.disk.now in
    let there = folder_stands at (g.D.Disk.stands c.args.disk.now) c.args.cache.now c.args.entry.now.folder up c.open.result.now it c.open.ensures in
    made_stand at _ _ _ c.args.cache.now _ _ (c.in-Ok.ensures up there) it.all

pub returns-in-Err-clause-ends : goal.returns-in-Err-clause-ends
returns-in-Err-clause-ends g c = λ up it.
    let at = g.D.Disk.tree c.args.disk.now in
    let there = folder_stands at (g.D.Disk.stands c.args.disk.now) c.args.cache.now c.args.entry.now.folder up c.open.result.now it c.open.ensures in
    no_link_made at (g.D.Disk.tree c.make_link.new.self) (g.D.Disk.stands c.args.disk.now) (g.D.Disk.stands c.make_link.new.self) up c.args.entry.now.name.now c.args.text.now c.in-Err.error c.why_not_made.result (g.met.D.Disk.is_tree c.args.disk.now) it.folder (c.in-Err.ensures up there) c.why_not_made.ensures

pub returns-in-Err-clause-stand : goal.returns-in-Err-clause-stand
returns-in-Err-clause-stand g c = λ up it.
    let at = g.D.Disk.tree c.args.disk.now in
    let there = folder_stands at (g.D.Disk.stands c.args.disk.now) c.args.cache.now c.args.entry.now.folder up c.open.result.now it c.open.ensures in
    not_made_stand at _ _ _ c.args.cache.now _ _ c.in-Err.error (c.in-Err.ensures up there) it.all
