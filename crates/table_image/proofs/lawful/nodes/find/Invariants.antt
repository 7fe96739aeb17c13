use Rattle.std.proofs.Common.{◌≡◌, drop}
use Rattle.tree.specs.Listed.{node_at}
use Rattle.table_image.proofs.lawful.nodes.find.Given as goal

abbrev pub invariant-loop-node : goal.invariant-loop-node
invariant-loop-node l = node_at l.nodes l.number ≡ node_at (drop l.node-index l.nodes) l.number
