use Rattle.tree.specs.Listed.{node_at}
use Rattle.table_image.proofs.Leading.{IsFollowed}
use Rattle.table_image.proofs.lawful.leads.is_path_of.Given as goal

abbrev pub invariant-loop-k : goal.invariant-loop-k
invariant-loop-k l = IsFollowed (node_at l.nodes) l.number l.current l.names l.k
