use Rattle.std.proofs.Common.{sym}
use Rattle.tree.specs.Places.{at_in}
use Rattle.table_steps.specs.Keeping.{kept_by}
use Rattle.table_steps.proofs.Reasons.{IsPruned-needed, IsPruned-drop}
use Rattle.table_steps.proofs.sweep.drop_needless.Goals as goal

pub returns-then-is_needed-clause-pruned : goal.returns-then-is_needed-clause-pruned
returns-then-is_needed-clause-pruned c =
    IsPruned-needed (at_in c.args.tree.now) (kept_by c.args.flights.now c.args.files.now) c.args.number c.args._pins.now c.in-Some.node.now (sym c.in-Some.ensures.found) (c.is_needed.ensures.yes c.if-is_needed.true) c.requires

pub returns-clause-pruned : goal.returns-clause-pruned
returns-clause-pruned c =
    IsPruned-drop (at_in c.args.tree.now) (at_in c.drop_node.new.self) (kept_by c.args.flights.now c.args.files.now) c.args.number c.args._pins.now c.in-Some.node.now
    (sym c.in-Some.ensures.found) c.drop_node.ensures.drops.nodes c.drop_node.ensures.tree (c.is_needed.ensures.no c.if-is_needed.false) c.requires c.parent_of-parent.result c.parent_of-parent.ensures
