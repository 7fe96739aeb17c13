use Rattle.backing.specs.Calls.{AskRenameNew}
use Rattle.disk_folder.proofs.UnseenEnds.{ends_after}
use Rattle.disk_folder.proofs.moving_new.rename_new.Goals as goal

pub returns-in-None-clause-ends : goal.returns-in-None-clause-ends
returns-in-None-clause-ends g c = λ all.
    ends_after (g.D.Disk.tree c.args.disk.now) (g.D.Disk.tree c.rename_new_unseen.new.disk) (g.D.Disk.tree c.rename_new_looking.new.disk) (AskRenameNew c.args.from.now c.args.to.now) c.rename_new_looking.result (c.in-None.ensures.ends all) (c.rename_new_looking.ensures.ends (c.in-None.ensures.stand all))
