use Rattle.disk_folder.proofs.StandLemmas.{stand_keeps_all}
use Rattle.disk_folder.proofs.MoveEnds.{entry_keeps, stands_keeps}
use Rattle.disk_folder.proofs.renaming.go_both.Goals as goal

pub returns-in-Ok-go_beside-clause-entries : goal.returns-in-Ok-go_beside-clause-entries
returns-in-Ok-go_beside-clause-entries g c = (entry_keeps c.go_above.new.cache c.go_beside.new.cache c.in-Ok.source c.args.from.now c.go_beside.ensures.keeps c.in-Ok.ensures.entry, c.in-Ok-go_beside.ensures.entry)

pub returns-in-Ok-go_beside-clause-ok : goal.returns-in-Ok-go_beside-clause-ok
returns-in-Ok-go_beside-clause-ok g c = λ all down. (
  stands_keeps (g.D.Disk.tree c.args.disk.now) (g.D.Disk.stands c.args.disk.now) c.go_above.new.cache c.go_beside.new.cache c.in-Ok.source c.args.from.now c.go_beside.ensures.keeps (c.in-Ok.ensures.ok all),
  c.in-Ok-go_beside.ensures.ok (c.in-Ok.ensures.stand all) down,
)

pub returns-in-Ok-go_beside-clause-stand : goal.returns-in-Ok-go_beside-clause-stand
returns-in-Ok-go_beside-clause-stand g c = λ all. stand_keeps_all (g.D.Disk.tree c.args.disk.now) (g.D.Disk.stands c.args.disk.now) c.go_above.new.cache c.go_beside.new.cache c.go_beside.ensures.keeps (c.in-Ok.ensures.stand all)

pub returns-in-Ok-clause-stand : goal.returns-in-Ok-clause-stand
returns-in-Ok-clause-stand g c = λ all. stand_keeps_all (g.D.Disk.tree c.args.disk.now) (g.D.Disk.stands c.args.disk.now) c.go_above.new.cache c.go_beside.new.cache c.go_beside.ensures.keeps (c.in-Ok.ensures.stand all)
