use Rattle.disk_folder.proofs.StandLemmas.{kept_file, stand_keeps_all}
use Rattle.disk_folder.proofs.finding.find_file.Goals as goal

pub returns-in-Some-clause-ok : goal.returns-in-Some-clause-ok
returns-in-Some-clause-ok g c = λ all.
    let at = g.D.Disk.tree c.args.disk.now in
    let stands = g.D.Disk.stands c.args.disk.now in
    kept_file at stands c.recall_file.new.cache c.in-Some.place c.args.path.now (stand_keeps_all at stands c.args.cache.now c.recall_file.new.cache c.recall_file.ensures.keeps all) c.in-Some.ensures.found c.in-Some.ensures.kind

pub returns-in-Some-clause-stand : goal.returns-in-Some-clause-stand
returns-in-Some-clause-stand g c = λ all. stand_keeps_all (g.D.Disk.tree c.args.disk.now) (g.D.Disk.stands c.args.disk.now) c.args.cache.now c.recall_file.new.cache c.recall_file.ensures.keeps all

pub returns-in-None-clause-ok : goal.returns-in-None-clause-ok
returns-in-None-clause-ok g c = λ all. c.find_there-in-None.ensures.ok (stand_keeps_all (g.D.Disk.tree c.args.disk.now) (g.D.Disk.stands c.args.disk.now) c.args.cache.now c.recall_file.new.cache c.recall_file.ensures.keeps all)

pub returns-in-None-clause-stand : goal.returns-in-None-clause-stand
returns-in-None-clause-stand g c = λ all. c.find_there-in-None.ensures.stand (stand_keeps_all (g.D.Disk.tree c.args.disk.now) (g.D.Disk.stands c.args.disk.now) c.args.cache.now c.recall_file.new.cache c.recall_file.ensures.keeps all)

pub returns-in-None-clause-err : goal.returns-in-None-clause-err
returns-in-None-clause-err g c = λ all. c.find_there-in-None.ensures.err (stand_keeps_all (g.D.Disk.tree c.args.disk.now) (g.D.Disk.stands c.args.disk.now) c.args.cache.now c.recall_file.new.cache c.recall_file.ensures.keeps all)
