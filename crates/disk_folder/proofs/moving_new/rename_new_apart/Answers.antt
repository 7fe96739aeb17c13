use Rattle.std.proofs.Common.{Bool, subst}
use Rattle.disk_folder.specs.Moving.{IsTold}
use Rattle.disk_folder.proofs.NewEnds.{new_stopped, new_taken}
use Rattle.disk_folder.proofs.moving_new.rename_new_apart.Goals as goal

pub returns-then-taken-clause-ends : goal.returns-then-taken-clause-ends
returns-then-taken-clause-ends g c = λ all some.
    let at = g.D.Disk.tree c.args.disk.now in
    let told = c.in-Ok.ensures.ok all in
    new_taken at c.args.from.now c.args.to.now (g.met.D.Disk.is_tree c.args.disk.now) c.requires some told.0 (subst (λ (b : Bool). IsTold at c.args.to.now b) c.if-taken.true told.1)

pub returns-in-Err-clause-ends : goal.returns-in-Err-clause-ends
returns-in-Err-clause-ends g c = λ all some. new_stopped (g.D.Disk.tree c.args.disk.now) c.args.from.now c.args.to.now c.in-Err.trouble (g.met.D.Disk.is_tree c.args.disk.now) c.requires some (c.in-Err.ensures.err all)
