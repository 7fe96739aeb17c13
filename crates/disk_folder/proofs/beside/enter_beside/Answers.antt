use Rattle.backing.proofs.Lawful.{folder_is}
use Rattle.disk_folder.proofs.StandLemmas.{folder_keeps_all, stand_keeps_all}
use Rattle.disk_folder.proofs.beside.enter_beside.Goals as goal

pub returns-in-Some-clause-ok : goal.returns-in-Some-clause-ok
returns-in-Some-clause-ok g c = λ up it there. record {
  all = stand_keeps_all (g.D.Disk.tree c.args.disk.now) (g.D.Disk.stands c.args.disk.now) c.args.cache.now c.child.new.self c.child.ensures.keeps it.all;
  held_at = c.in-Some.ensures.found up it.held_at;
  own = tt;
  folder = folder_is _ there;
}

pub returns-clause-ok : goal.returns-clause-ok
returns-clause-ok g c = λ up it there.
    c.open_beside.ensures.ok up (folder_keeps_all (g.D.Disk.tree c.args.disk.now) (g.D.Disk.stands c.args.disk.now) c.args.cache.now c.child.new.self c.args.folder up c.child.ensures.keeps it) (c.in-None.ensures.none up it.held_at)
