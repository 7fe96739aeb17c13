use Rattle.tree.specs.Places.{at_in}
use Rattle.table_steps.proofs.Placing.{cut_children_node, no_fault}
use Rattle.table_steps.proofs.NewlyCut.{listed_by}
use Rattle.table_steps.proofs.name_changes.cut_node.Goals as goal

pub unreachable-requires : goal.unreachable-requires
unreachable-requires c = no_fault (at_in c.args.tree.now) c.len-nodes.ensures.tree c.args.number c.requires.leads c.in_default.field-0 c.in_default.ensures.err

pub returns-clause-children : goal.returns-clause-children
returns-clause-children c = cut_children_node (at_in c.args.tree.now) (at_in c.cut.new.self) c.len-nodes.ensures.tree c.args.number c.in-Ok.ensures.ok.below

pub returns-clause-listed : goal.returns-clause-listed
returns-clause-listed c = listed_by c.args.tree.now c.cut.new.self c.in-Ok.ensures.ok.lists
