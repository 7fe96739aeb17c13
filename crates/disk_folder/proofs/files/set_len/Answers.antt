use Rattle.std.proofs.Common.{None}
use Rattle.backing.specs.Calls.{AskSetLen, Fits}
use Rattle.disk_folder.proofs.FileEnds.{stand_stays}
use Rattle.disk_folder.proofs.SeenLemmas.{file_longer, refused_ends}
use Rattle.disk_folder.proofs.StandLemmas.{file_stands}
use Rattle.disk_folder.proofs.files.set_len.Goals as goal

pub returns-in-Ok-clause-ends : goal.returns-in-Ok-clause-ends
returns-in-Ok-clause-ends g c = λ all.
    let it = c.in-Ok.ensures.ok all in
    c.set_len_open.ensures.ends c.args.path.now it.bytes (file_stands (g.D.Disk.tree c.args.disk.now) (g.D.Disk.stands c.args.disk.now) c.find_file.new.cache c.in-Ok.file c.args.path.now c.open.result.now it c.open.ensures) it.file

pub returns-in-Ok-clause-stand : goal.returns-in-Ok-clause-stand
returns-in-Ok-clause-stand g c = λ all.
    let at = g.D.Disk.tree c.args.disk.now in
    let olds = g.D.Disk.stands c.args.disk.now in
    let it = c.in-Ok.ensures.ok all in
    let there = file_stands at olds c.find_file.new.cache c.in-Ok.file c.args.path.now c.open.result.now it c.open.ensures in
    stand_stays at (g.D.Disk.tree c.set_len_open.new.disk) olds (g.D.Disk.stands c.set_len_open.new.disk) c.find_file.new.cache (c.set_len_open.ensures.stay c.args.path.now it.bytes there it.file) it.all

pub returns-in-Err-clause-ends : goal.returns-in-Err-clause-ends
returns-in-Err-clause-ends g c = λ all. refused_ends (g.D.Disk.tree c.args.disk.now) (AskSetLen c.args.path.now c.args.size) c.in-Err.trouble (file_longer (g.D.Disk.tree c.args.disk.now) c.args.path.now (Fits None c.args.size) c.in-Err.trouble (c.in-Err.ensures.err all))
