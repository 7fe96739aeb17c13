use Rattle.std.proofs.Common.{◌≡◌}
use Rattle.backing.specs.declared.call.Answer.{Answer}
use Rattle.backing.specs.declared.call.Answer.TheVariants.{Bytes}
use Rattle.backing.specs.Files.{read}
use Rattle.disk_folder.proofs.FileEnds.{read_ends}
use Rattle.disk_folder.proofs.StandLemmas.{file_stands, if_ok}
use Rattle.disk_folder.proofs.files.read.Goals as goal

pub returns-in-Ok-clause-ends : goal.returns-in-Ok-clause-ends
returns-in-Ok-clause-ends g c = λ all.
    let at = g.D.Disk.tree c.args.disk.now in
    let p = c.args.path.now in
    let it = c.in-Ok.ensures.ok all in
    let there = file_stands at (g.D.Disk.stands c.args.disk.now) c.find_file.new.cache c.in-Ok.file p c.open.result.now it c.open.ensures in
    read_ends at p it.bytes c.args.offset c.args.size c.read_open.result (g.met.D.Disk.is_tree c.args.disk.now) it.file
    (if_ok _ (λ (answer : Answer). answer ≡ Bytes (read it.bytes c.args.offset c.args.size)) c.read_open.result (λ answer is. is p it.bytes there it.file) c.read_open.ensures.ok) c.read_open.ensures.err
