use Rattle.std.proofs.Common.{refl}
use Rattle.disk_folder.proofs.FindLemmas.{found_held}
use Rattle.disk_folder.proofs.StandLemmas.{folder_stands}
use Rattle.disk_folder.proofs.finding.find_kept.Goals as goal

pub returns-in-Some-clause-ok : goal.returns-in-Some-clause-ok
returns-in-Some-clause-ok g c = λ up it.
    let at = g.D.Disk.tree c.args.disk.now in
    let stands = g.D.Disk.stands c.args.disk.now in
    let there = folder_stands at stands c.args.cache.now c.args.entry.now.folder up c.open.result.now it c.open.ensures in
    found_held at stands c.args.cache.now c.hold.new.self _ _ c.hold.result refl (c.in-Some.ensures up there) (c.hold.ensures.held up it.held_at) (c.hold.ensures.keeps up it.held_at) c.hold.ensures.own it.all
