use Rattle.std.proofs.Common.{◌++◌, ◌∷◌, [], refl}
use Rattle.disk_folder.proofs.StandLemmas.{folder_stands}
use Rattle.disk_folder.proofs.KeptCases.{same_stand}
use Rattle.disk_folder.proofs.MoveEnds.{follows_stand, not_moved_stand}
use Rattle.disk_folder.proofs.UnseenEnds.{told_moves, untold_stays}
use Rattle.disk_folder.proofs.unseen.move_unheard.Goals as goal

pub returns-in-Ok-clause-moves : goal.returns-in-Ok-clause-moves
returns-in-Ok-clause-moves g c = λ up up' it that apart.
    let at = g.D.Disk.tree c.args.disk.now in
    let olds = g.D.Disk.stands c.args.disk.now in
    let there = folder_stands at olds c.args.cache.now c.args.source.now.folder up c.open.result.now it c.open.ensures in
    let there_too = folder_stands at olds c.args.cache.now c.args.target.now.folder up' c.open-2.result.now that c.open-2.ensures in
    (refl, c.in-Ok.ensures up up' there there_too apart)

pub returns-in-Ok-clause-stand : goal.returns-in-Ok-clause-stand
returns-in-Ok-clause-stand g c = λ up up' it that apart.
    let at = g.D.Disk.tree c.args.disk.now in
    let olds = g.D.Disk.stands c.args.disk.now in
    let there = folder_stands at olds c.args.cache.now c.args.source.now.folder up c.open.result.now it c.open.ensures in
    let there_too = folder_stands at olds c.args.cache.now c.args.target.now.folder up' c.open-2.result.now that c.open-2.ensures in
    follows_stand at _ olds (g.D.Disk.stands c.rename.new.self) c.args.cache.now _ _ _ (c.follow.ensures up up' it.held_at that.held_at apart) apart (c.in-Ok.ensures up up' there there_too apart) it.all

pub returns-in-Some-clause-moves : goal.returns-in-Some-clause-moves
returns-in-Some-clause-moves g c = λ up up' it that apart.
    let at = g.D.Disk.tree c.args.disk.now in
    let olds = g.D.Disk.stands c.args.disk.now in
    let there = folder_stands at olds c.args.cache.now c.args.source.now.folder up c.open.result.now it c.open.ensures in
    let there_too = folder_stands at olds c.args.cache.now c.args.target.now.folder up' c.open-2.result.now that c.open-2.ensures in
    told_moves at (g.D.Disk.tree c.rename.new.self) olds (g.D.Disk.stands c.rename.new.self) (up ++ c.args.source.now.name.now ∷ []) (up' ++ c.args.target.now.name.now ∷ []) c.in-Err.error c.lost.result c.in-Some.trouble c.in-Some.is c.lost.ensures (c.in-Err.ensures up up' there there_too apart)

pub returns-in-Some-clause-stand : goal.returns-in-Some-clause-stand
returns-in-Some-clause-stand g c = λ up up' it that apart.
    let at = g.D.Disk.tree c.args.disk.now in
    let olds = g.D.Disk.stands c.args.disk.now in
    let there = folder_stands at olds c.args.cache.now c.args.source.now.folder up c.open.result.now it c.open.ensures in
    let there_too = folder_stands at olds c.args.cache.now c.args.target.now.folder up' c.open-2.result.now that c.open-2.ensures in
    not_moved_stand at _ olds (g.D.Disk.stands c.rename.new.self) c.args.cache.now _ up c.args.source.now.name.now up' c.args.target.now.name.now c.in-Err.error c.clear.ensures apart (c.in-Err.ensures up up' there there_too apart) it.all

pub returns-in-None-clause-moves : goal.returns-in-None-clause-moves
returns-in-None-clause-moves g c = λ up up' it that apart.
    let at = g.D.Disk.tree c.args.disk.now in
    let olds = g.D.Disk.stands c.args.disk.now in
    let there = folder_stands at olds c.args.cache.now c.args.source.now.folder up c.open.result.now it c.open.ensures in
    let there_too = folder_stands at olds c.args.cache.now c.args.target.now.folder up' c.open-2.result.now that c.open-2.ensures in
    untold_stays at (g.D.Disk.tree c.rename.new.self) olds (g.D.Disk.stands c.rename.new.self) (up ++ c.args.source.now.name.now ∷ []) (up' ++ c.args.target.now.name.now ∷ []) c.in-Err.error c.lost.result c.in-None.is c.lost.ensures (c.in-Err.ensures up up' there there_too apart)

pub returns-in-None-clause-stand : goal.returns-in-None-clause-stand
returns-in-None-clause-stand g c = λ up up' it that apart.
    let at = g.D.Disk.tree c.args.disk.now in
    let olds = g.D.Disk.stands c.args.disk.now in
    let there = folder_stands at olds c.args.cache.now c.args.source.now.folder up c.open.result.now it c.open.ensures in
    let there_too = folder_stands at olds c.args.cache.now c.args.target.now.folder up' c.open-2.result.now that c.open-2.ensures in
    let stays = untold_stays at (g.D.Disk.tree c.rename.new.self) olds (g.D.Disk.stands c.rename.new.self) (up ++ c.args.source.now.name.now ∷ []) (up' ++ c.args.target.now.name.now ∷ []) c.in-Err.error c.lost.result c.in-None.is c.lost.ensures (c.in-Err.ensures up up' there there_too apart) in
    same_stand at (g.D.Disk.tree c.rename.new.self) olds (g.D.Disk.stands c.rename.new.self) c.args.cache.now stays it.all
