use Rattle.std.proofs.Common.{None, length, sym, ◌∙◌}
use Rattle.std.proofs.lemmas.Bool.{eqb-true}
use Rattle.std.proofs.lemmas.List.{nil_from_length}
use Rattle.backing.specs.Calls.{AskWrite, Fits, end_of}
use Rattle.disk_folder.proofs.FileEnds.{stand_stays, write_none}
use Rattle.disk_folder.proofs.SeenLemmas.{file_longer, refused_ends}
use Rattle.disk_folder.proofs.StandLemmas.{file_stands}
use Rattle.disk_folder.proofs.files.write.Goals as goal

pub returns-in-Ok-clause-ends : goal.returns-in-Ok-clause-ends
returns-in-Ok-clause-ends g c = λ all.
    let file = c.in-Ok.ensures.ok all in
    write_none (g.D.Disk.tree c.args.disk.now) c.args.path.now file.0 c.args.offset c.args.bytes.now (g.met.D.Disk.is_tree c.args.disk.now) file.1 (nil_from_length c.args.bytes.now (eqb-true (length c.args.bytes.now) 0 (sym c.is_empty.ensures ∙ c.if-is_empty.true)))

pub returns-in-Ok-find_file-clause-ends : goal.returns-in-Ok-find_file-clause-ends
returns-in-Ok-find_file-clause-ends g c = λ all.
    let it = c.in-Ok-find_file.ensures.ok all in
    c.write_open.ensures.ends c.args.path.now it.bytes (file_stands (g.D.Disk.tree c.args.disk.now) (g.D.Disk.stands c.args.disk.now) c.find_file.new.cache c.in-Ok-find_file.file c.args.path.now c.open.result.now it c.open.ensures) it.file

pub returns-in-Ok-find_file-clause-stand : goal.returns-in-Ok-find_file-clause-stand
returns-in-Ok-find_file-clause-stand g c = λ all.
    let at = g.D.Disk.tree c.args.disk.now in
    let olds = g.D.Disk.stands c.args.disk.now in
    let it = c.in-Ok-find_file.ensures.ok all in
    let there = file_stands at olds c.find_file.new.cache c.in-Ok-find_file.file c.args.path.now c.open.result.now it c.open.ensures in
    stand_stays at (g.D.Disk.tree c.write_open.new.disk) olds (g.D.Disk.stands c.write_open.new.disk) c.find_file.new.cache (c.write_open.ensures.stay c.args.path.now it.bytes there it.file) it.all

pub returns-in-Err-clause-ends : goal.returns-in-Err-clause-ends
returns-in-Err-clause-ends g c = λ all. refused_ends (g.D.Disk.tree c.args.disk.now) (AskWrite c.args.path.now c.args.offset c.args.bytes.now) c.in-Err.trouble (file_longer (g.D.Disk.tree c.args.disk.now) c.args.path.now (Fits None (end_of c.args.offset c.args.bytes.now)) c.in-Err.trouble (c.in-Err.ensures.err all))

pub returns-in-Err-find_file-clause-ends : goal.returns-in-Err-find_file-clause-ends
returns-in-Err-find_file-clause-ends g c = λ all. refused_ends (g.D.Disk.tree c.args.disk.now) (AskWrite c.args.path.now c.args.offset c.args.bytes.now) c.in-Err-find_file.trouble (file_longer (g.D.Disk.tree c.args.disk.now) c.args.path.now (Fits None (end_of c.args.offset c.args.bytes.now)) c.in-Err-find_file.trouble (c.in-Err-find_file.ensures.err all))
