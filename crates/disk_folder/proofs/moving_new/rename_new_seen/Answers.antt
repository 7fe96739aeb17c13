use Rattle.std.proofs.Common.{◌∙◌, sym, rules}
use Rattle.disk_folder.proofs.MoveEnds.{not_is}
use Rattle.disk_folder.proofs.NewEnds.{new_into, new_over, same_taken}
use Rattle.disk_folder.proofs.moving_new.rename_new_seen.Goals as goal

pub returns-then-is-clause-ends : goal.returns-then-is-clause-ends
returns-then-is-clause-ends g c = λ all some. same_taken (g.D.Disk.tree c.args.disk.now) c.args.from.now c.args.to.now (g.met.D.Disk.is_tree c.args.disk.now) c.requires.below c.requires.below_too some (c.if-is.ensures.0 (search rules))

pub returns-then-is_prefix_of-clause-ends : goal.returns-then-is_prefix_of-clause-ends
returns-then-is_prefix_of-clause-ends g c = λ all some. new_into (g.D.Disk.tree c.args.disk.now) c.args.from.now c.args.to.now (g.met.D.Disk.is_tree c.args.disk.now) c.requires.below c.requires.below_too some (not_is _ c.is.result c.is.ensures.1 c.if-is.false) (sym c.is_prefix_of.ensures ∙ c.if-is_prefix_of.true)

pub returns-then-is_prefix_of-2-clause-ends : goal.returns-then-is_prefix_of-2-clause-ends
returns-then-is_prefix_of-2-clause-ends g c = λ all some. new_over (g.D.Disk.tree c.args.disk.now) c.args.from.now c.args.to.now (g.met.D.Disk.is_tree c.args.disk.now) c.requires.below c.requires.below_too some (not_is _ c.is.result c.is.ensures.1 c.if-is.false) (sym c.is_prefix_of.ensures ∙ c.if-is_prefix_of.false) (sym c.is_prefix_of-2.ensures ∙ c.if-is_prefix_of-2.true)
