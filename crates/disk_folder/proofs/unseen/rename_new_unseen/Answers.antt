use Rattle.std.proofs.Common.{Bool, refl, subst}
use Rattle.disk_folder.specs.Moving.{IsTold}
use Rattle.disk_folder.proofs.UnseenEnds.{unseen_new_ends}
use Rattle.disk_folder.proofs.unseen.rename_new_unseen.Goals as goal

pub returns-else-taken-clause-ends : goal.returns-else-taken-clause-ends
returns-else-taken-clause-ends g c = λ all.
    let at = g.D.Disk.tree c.args.disk.now in
    let told = c.in-Ok.ensures.ok all in
    let free = subst (λ (b : Bool). IsTold at c.args.to.now b) c.if-taken.false told.1 in
    unseen_new_ends at (g.D.Disk.tree c.move_both.new.disk) (g.D.Disk.stands c.args.disk.now) (g.D.Disk.stands c.move_both.new.disk) c.args.from.now c.args.to.now c.move_both.result (g.met.D.Disk.is_tree c.args.disk.now) told.0 (c.if-not-needs_no_look.ensures refl) free (c.move_both.ensures.moves (c.in-Ok.ensures.stand all) told.0)
