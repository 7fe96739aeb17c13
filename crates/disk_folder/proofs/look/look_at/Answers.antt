use Rattle.disk_folder.proofs.StandLemmas.{held_settles, stand_settles}
use Rattle.disk_folder.proofs.look.look_at.Goals as goal

pub returns-clause-stand : goal.returns-clause-stand
returns-clause-stand g c = λ all. stand_settles (g.D.Disk.tree c.args.disk.now) (g.D.Disk.stands c.args.disk.now) c.args.cache.now c.settle.new.self _ (c.settle.ensures c.requires.held.path c.requires.held.at) all

pub returns-clause-held : goal.returns-clause-held
returns-clause-held g c = λ up at. held_settles c.args.cache.now c.settle.new.self c.args.entry.now.folder up c.args.entry.now.name.now (c.settle.ensures up at) at
