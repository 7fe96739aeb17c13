use Rattle.std.proofs.Common.{sym, subst, IfOk}
use Rattle.disk_folder.specs.Seen.{IsSeen}
use Rattle.disk_folder.proofs.StandLemmas.{kept_stands}
use Rattle.disk_folder.proofs.SeenLemmas.{entry_refused}
use Rattle.disk_folder.proofs.stat.see.Goals as goal

pub returns-in-Some-clause-ok : goal.returns-in-Some-clause-ok
returns-in-Some-clause-ok g c = λ all.
    let at = g.D.Disk.tree c.args.disk.now in
    let it = c.in-Some.ensures in
    let folder = kept_stands at (g.D.Disk.stands c.args.disk.now) c.args.cache.now _ c.args.path.now (g.met.D.Disk.is_tree c.args.disk.now).root all it in
    subst (λ q. IfOk c.look_at.result (IsSeen at q)) (sym it.whole) (c.look_at.ensures.ok it.up folder)

pub returns-in-Some-clause-err : goal.returns-in-Some-clause-err
returns-in-Some-clause-err g c = λ all.
    let at = g.D.Disk.tree c.args.disk.now in
    let it = c.in-Some.ensures in
    let folder = kept_stands at (g.D.Disk.stands c.args.disk.now) c.args.cache.now _ c.args.path.now (g.met.D.Disk.is_tree c.args.disk.now).root all it in
    entry_refused at c.args.path.now it.up _ c.look_at.result (g.met.D.Disk.is_tree c.args.disk.now) it.whole folder.folder (c.look_at.ensures.err it.up folder)
