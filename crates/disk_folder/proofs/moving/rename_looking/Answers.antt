use Rattle.disk_folder.proofs.CallEnds.{stand_same}
use Rattle.disk_folder.proofs.moving.rename_looking.Goals as goal

pub returns-in-Ok-clause-stand : goal.returns-in-Ok-clause-stand
returns-in-Ok-clause-stand g c = λ all.
    stand_same (g.D.Disk.tree c.rename_seen-moved.new.disk) (g.D.Disk.stands c.rename_seen-moved.new.disk) c.rename_seen-moved.new.cache c.note_move.new.cache c.note_move.ensures (c.rename_seen-moved.ensures.stand (c.in-Ok.ensures.stand all))
