use Rattle.disk_folder.proofs.StandLemmas.{kept_stands}
use Rattle.disk_folder.proofs.walk.go_above.Goals as goal

pub returns-in-Some-clause-ok : goal.returns-in-Some-clause-ok
returns-in-Some-clause-ok g c = λ all.
    let it = c.in-Some.ensures in
    record {
      up = it.up;
      whole = it.whole;
      folder = kept_stands (g.D.Disk.tree c.args.disk.now) (g.D.Disk.stands c.args.disk.now) c.args.cache.now _ c.args.path.now (g.met.D.Disk.is_tree c.args.disk.now).root all it;
    }
