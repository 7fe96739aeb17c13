use Rattle.std.proofs.Common.{[]}
use Rattle.tree.specs.Places.{at_in}
use Rattle.table_image.proofs.Exported.{ListsBelow-none, ListsBelow-skip}
use Rattle.table.proofs.Exporting.{nodes_listed}
use Rattle.table.proofs.export.copy_nodes.Goals as goal

pub loop-next-init : goal.loop-next-init
loop-next-init c none = rw c.new-nodes.ensures.items (ListsBelow-skip (at_in c.args.tree.now) 0 [] none (ListsBelow-none (at_in c.args.tree.now)))

pub returns-clause-nodes : goal.returns-clause-nodes
returns-clause-nodes c =
    nodes_listed c.args.tree.now c.loop-next.number c.loop-next.nodes.items c.in_default.ensures.none (c.loop-next.invariant c.in_default.ensures.positive)
