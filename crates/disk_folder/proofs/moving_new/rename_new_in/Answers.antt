use Rattle.disk_folder.proofs.StandLemmas.{folder_stands}
use Rattle.disk_folder.proofs.MoveEnds.{follows_stand, not_moved_stand}
use Rattle.disk_folder.proofs.NewEnds.{new_moved, new_not_moved}
use Rattle.disk_folder.proofs.moving_new.rename_new_in.Goals as goal

pub returns-in-Ok-clause-ends : goal.returns-in-Ok-clause-ends
returns-in-Ok-clause-ends g c = λ up up' it that apart free.
    let at = g.D.Disk.tree c.args.disk.now in
    let olds = g.D.Disk.stands c.args.disk.now in
    let there = folder_stands at olds c.args.cache.now c.args.source.now.folder up c.open.result.now it c.open.ensures in
    let there_too = folder_stands at olds c.args.cache.now c.args.target.now.folder up' c.open-2.result.now that c.open-2.ensures in
    new_moved at _ olds (g.D.Disk.stands c.rename.new.self) up c.args.source.now.name.now up' c.args.target.now.name.now (g.met.D.Disk.is_tree c.args.disk.now) that.folder apart free (c.in-Ok.ensures up up' there there_too apart)

pub returns-in-Ok-clause-stand : goal.returns-in-Ok-clause-stand
returns-in-Ok-clause-stand g c = λ up up' it that apart.
    let at = g.D.Disk.tree c.args.disk.now in
    let olds = g.D.Disk.stands c.args.disk.now in
    let there = folder_stands at olds c.args.cache.now c.args.source.now.folder up c.open.result.now it c.open.ensures in
    let there_too = folder_stands at olds c.args.cache.now c.args.target.now.folder up' c.open-2.result.now that c.open-2.ensures in
    follows_stand at _ olds (g.D.Disk.stands c.rename.new.self) c.args.cache.now _ _ _ (c.follow.ensures up up' it.held_at that.held_at apart) apart (c.in-Ok.ensures up up' there there_too apart) it.all

pub returns-in-Err-clause-ends : goal.returns-in-Err-clause-ends
returns-in-Err-clause-ends g c = λ up up' it that apart free.
    let at = g.D.Disk.tree c.args.disk.now in
    let olds = g.D.Disk.stands c.args.disk.now in
    let there = folder_stands at olds c.args.cache.now c.args.source.now.folder up c.open.result.now it c.open.ensures in
    let there_too = folder_stands at olds c.args.cache.now c.args.target.now.folder up' c.open-2.result.now that c.open-2.ensures in
    new_not_moved at (g.D.Disk.tree c.rename.new.self) olds (g.D.Disk.stands c.rename.new.self) up c.args.source.now.name.now up' c.args.target.now.name.now c.in-Err.error c.failure.result _ (g.met.D.Disk.is_tree c.args.disk.now) that.folder apart free (c.in-Err.ensures up up' there there_too apart) c.failure.ensures

pub returns-in-Err-clause-stand : goal.returns-in-Err-clause-stand
returns-in-Err-clause-stand g c = λ up up' it that apart.
    let at = g.D.Disk.tree c.args.disk.now in
    let olds = g.D.Disk.stands c.args.disk.now in
    let there = folder_stands at olds c.args.cache.now c.args.source.now.folder up c.open.result.now it c.open.ensures in
    let there_too = folder_stands at olds c.args.cache.now c.args.target.now.folder up' c.open-2.result.now that c.open-2.ensures in
    not_moved_stand at _ olds (g.D.Disk.stands c.rename.new.self) c.args.cache.now _ up c.args.source.now.name.now up' c.args.target.now.name.now c.in-Err.error c.clear.ensures apart (c.in-Err.ensures up up' there there_too apart) it.all
