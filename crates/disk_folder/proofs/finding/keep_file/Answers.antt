use Rattle.std.proofs.Common.{Ok}
use Rattle.disk_folder.proofs.StandLemmas.{held_file, stand_keeps}
use Rattle.disk_folder.proofs.finding.keep_file.Goals as goal

pub returns-clause-ok : goal.returns-clause-ok
returns-clause-ok g c = λ up it file.
    let at = g.D.Disk.tree c.args.disk.now in
    let stands = g.D.Disk.stands c.args.disk.now in
    let all = stand_keeps at stands c.args.cache.now c.keep.new.self _ c.args.opened (c.keep.ensures.keeps up it.held_at) file.standing it.all in
    held_file at stands c.keep.new.self _ c.args.opened c.keep.result (c.keep.ensures.held up it.held_at) c.keep.ensures.own all file

pub returns-clause-stand : goal.returns-clause-stand
returns-clause-stand g c = λ up it file. stand_keeps (g.D.Disk.tree c.args.disk.now) (g.D.Disk.stands c.args.disk.now) c.args.cache.now c.keep.new.self _ c.args.opened (c.keep.ensures.keeps up it.held_at) file.standing it.all

pub returns-then-keeps_files-clause-ok : goal.returns-then-keeps_files-clause-ok
returns-then-keeps_files-clause-ok g c = λ up it file.
    let at = g.D.Disk.tree c.args.disk.now in
    let stands = g.D.Disk.stands c.args.disk.now in
    let all = stand_keeps at stands c.args.cache.now c.hold.new.self _ c.args.opened (c.hold.ensures.keeps up it.held_at) file.standing it.all in
    held_file at stands c.hold.new.self _ c.args.opened (Ok c.hold.result) (c.hold.ensures.held up it.held_at) c.hold.ensures.own all file

pub returns-then-keeps_files-clause-stand : goal.returns-then-keeps_files-clause-stand
returns-then-keeps_files-clause-stand g c = λ up it file. stand_keeps (g.D.Disk.tree c.args.disk.now) (g.D.Disk.stands c.args.disk.now) c.args.cache.now c.hold.new.self _ c.args.opened (c.hold.ensures.keeps up it.held_at) file.standing it.all
