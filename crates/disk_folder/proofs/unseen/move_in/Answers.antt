use Rattle.disk_folder.proofs.CallEnds.{stand_same}
use Rattle.disk_folder.proofs.unseen.move_in.Goals as goal

pub returns-in-Ok-clause-stand : goal.returns-in-Ok-clause-stand
returns-in-Ok-clause-stand g c = λ up up' it that apart.
    stand_same (g.D.Disk.tree c.move_unheard-moved.new.disk) (g.D.Disk.stands c.move_unheard-moved.new.disk) c.move_unheard-moved.new.cache c.note_told.new.cache c.note_told.ensures (c.move_unheard-moved.ensures.stand up up' it that apart)
