use Rattle.disk_folder.proofs.StandLemmas.{held_folder, stand_keeps}
use Rattle.disk_folder.proofs.walk.open_and_keep.Goals as goal

pub returns-in-Ok-clause-ok : goal.returns-in-Ok-clause-ok
returns-in-Ok-clause-ok g c = λ up it.
    let at = g.D.Disk.tree c.args.disk.now in
    let stands = g.D.Disk.stands c.args.disk.now in
    let folder = c.in-Ok.ensures.ok up it in
    let all = stand_keeps at stands c.args.cache.now c.keep.new.self _ c.in-Ok.opened (c.keep.ensures.keeps up it.held_at) folder.standing it.all in
    held_folder at stands c.keep.new.self _ c.in-Ok.opened c.keep.result (c.keep.ensures.held up it.held_at) c.keep.ensures.own all folder

pub returns-in-Ok-clause-stand : goal.returns-in-Ok-clause-stand
returns-in-Ok-clause-stand g c = λ up it.
    let folder = c.in-Ok.ensures.ok up it in
    stand_keeps (g.D.Disk.tree c.args.disk.now) (g.D.Disk.stands c.args.disk.now) c.args.cache.now c.keep.new.self _ c.in-Ok.opened (c.keep.ensures.keeps up it.held_at) folder.standing it.all
