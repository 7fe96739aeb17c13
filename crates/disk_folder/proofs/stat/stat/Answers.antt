use Rattle.disk_folder.proofs.SeenLemmas.{stat_ends, stat_suits}
use Rattle.disk_folder.proofs.stat.stat.Goals as goal

pub returns-in-Ok-clause-suits : goal.returns-in-Ok-clause-suits
returns-in-Ok-clause-suits g c = stat_suits c.args.path.now c.in-Ok.seen c.stat_of-in-Ok.result c.stat_of-in-Ok.ensures

pub returns-in-Ok-clause-ends : goal.returns-in-Ok-clause-ends
returns-in-Ok-clause-ends g c = λ all listed. stat_ends (g.D.Disk.tree c.args.disk.now) c.args.path.now c.in-Ok.seen c.stat_of-in-Ok.result (g.met.D.Disk.is_tree c.args.disk.now) (c.in-Ok.ensures.ok all) c.stat_of-in-Ok.ensures

pub returns-in-Some-clause-suits : goal.returns-in-Some-clause-suits
returns-in-Some-clause-suits g c = stat_suits c.args.path.now c.in-Some.seen c.stat_of.result c.stat_of.ensures

pub returns-in-Some-clause-ends : goal.returns-in-Some-clause-ends
returns-in-Some-clause-ends g c = λ all listed. stat_ends (g.D.Disk.tree c.args.disk.now) c.args.path.now c.in-Some.seen c.stat_of.result (g.met.D.Disk.is_tree c.args.disk.now) (c.in-Some.ensures (g.D.Disk.tree c.args.disk.now) listed) c.stat_of.ensures
