use Rattle.disk_folder.proofs.UnseenEnds.{unseen_ends}
use Rattle.disk_folder.proofs.unseen.move_behind.Goals as goal

pub returns-in-Ok-clause-ends : goal.returns-in-Ok-clause-ends
returns-in-Ok-clause-ends g c = λ all.
    let down = c.in-Ok.ensures.ok all in
    unseen_ends (g.D.Disk.tree c.args.disk.now) (g.D.Disk.tree c.move_both.new.disk) (g.D.Disk.stands c.args.disk.now) (g.D.Disk.stands c.move_both.new.disk) c.args.from.now c.args.to.now c.move_both.result (g.met.D.Disk.is_tree c.args.disk.now) down c.requires (c.move_both.ensures.moves (c.in-Ok.ensures.stand all) down)
