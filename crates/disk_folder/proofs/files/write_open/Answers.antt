use Rattle.std.proofs.Common.{length}
use Rattle.disk_folder.proofs.FileEnds.{write_part, write_whole, wrote_open}
use Rattle.disk_folder.proofs.files.write_open.Goals as goal

pub returns-in-Ok-clause-ends : goal.returns-in-Ok-clause-ends
returns-in-Ok-clause-ends g c = λ p before there file. write_whole (g.D.Disk.tree c.args.disk.now) (g.D.Disk.tree c.write_all.new.disk) p before c.args.offset c.args.bytes.now (g.met.D.Disk.is_tree c.args.disk.now) file c.requires (c.in-Ok.ensures.ok p before there file)

pub returns-in-Ok-clause-stay : goal.returns-in-Ok-clause-stay
returns-in-Ok-clause-stay g c = λ p before there file. wrote_open (g.D.Disk.tree c.args.disk.now) (g.D.Disk.tree c.write_all.new.disk) (g.D.Disk.stands c.args.disk.now) (g.D.Disk.stands c.write_all.new.disk) p before c.args.offset c.args.bytes.now (length c.args.bytes.now) file (c.in-Ok.ensures.ok p before there file) (c.in-Ok.ensures.stay p before there file)

pub returns-in-Err-clause-ends : goal.returns-in-Err-clause-ends
returns-in-Err-clause-ends g c = λ p before there file.
    let part = c.in-Err.ensures.err.1 p before there file in
    write_part (g.D.Disk.tree c.args.disk.now) (g.D.Disk.tree c.write_all.new.disk) p before c.args.offset c.args.bytes.now part.0 c.in-Err.trouble (g.met.D.Disk.is_tree c.args.disk.now) file c.in-Err.ensures.err.0 part.1 part.2

pub returns-in-Err-clause-stay : goal.returns-in-Err-clause-stay
returns-in-Err-clause-stay g c = λ p before there file.
    let part = c.in-Err.ensures.err.1 p before there file in
    wrote_open (g.D.Disk.tree c.args.disk.now) (g.D.Disk.tree c.write_all.new.disk) (g.D.Disk.stands c.args.disk.now) (g.D.Disk.stands c.write_all.new.disk) p before c.args.offset c.args.bytes.now part.0 file part.2 (c.in-Err.ensures.stay p before there file)
