use Rattle.std.proofs.Common.{IfOk, sym, subst}
use Rattle.paths.specs.Prefixes.{Names}
use Rattle.disk_folder.specs.Standing.{IsFileAt}
use Rattle.disk_folder.proofs.SeenLemmas.{entry_no_file}
use Rattle.disk_folder.proofs.finding.find_there.Goals as goal

pub returns-in-Ok-clause-ok : goal.returns-in-Ok-clause-ok
returns-in-Ok-clause-ok g c = λ all.
    let it = c.in-Ok.ensures.ok all in
    subst (λ (q : Names). IfOk c.find_in.result (λ held. IsFileAt (g.D.Disk.tree c.args.disk.now) (g.D.Disk.stands c.args.disk.now) c.find_in.new.cache held q)) (sym it.whole) (c.find_in.ensures.ok it.up it.folder)

pub returns-in-Ok-clause-stand : goal.returns-in-Ok-clause-stand
returns-in-Ok-clause-stand g c = λ all. let it = c.in-Ok.ensures.ok all in c.find_in.ensures.stand it.up it.folder

pub returns-in-Ok-clause-err : goal.returns-in-Ok-clause-err
returns-in-Ok-clause-err g c = λ all.
    let it = c.in-Ok.ensures.ok all in
    entry_no_file (g.D.Disk.tree c.args.disk.now) c.args.path.now it.up c.in-Ok.entry.name.now c.find_in.result (g.met.D.Disk.is_tree c.args.disk.now) it.whole it.folder.folder (c.find_in.ensures.err it.up it.folder)
