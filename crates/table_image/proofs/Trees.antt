-- A tree as a list of nodes, and its parts.
use Rattle.std.proofs.Common.{List}
use Rattle.tree.specs.declared.nodes.Node.{Node}
use Rattle.tree.specs.Places.{IsTree, IsRooted}
use Rattle.tree.specs.Listed.{node_at}
use Rattle.tree.proofs.LookupLemmas.{node_at_number}
use Rattle.table_image.specs.Parts.{HasOneRoot, AreNamesApart, AreAllReached}

pub tree_of : (xs : List Node) → IsRooted (node_at xs) → HasOneRoot (node_at xs) → AreNamesApart (node_at xs) → AreAllReached (node_at xs) → IsTree (node_at xs)
tree_of xs rooted root names reached =
    record { rooted = rooted; only_root = root.only; numbered = node_at_number xs; apart = names.apart; reached = reached.reached }

pub parts_of : (xs : List Node) → IsTree (node_at xs) → IsRooted (node_at xs) × HasOneRoot (node_at xs) × AreNamesApart (node_at xs) × AreAllReached (node_at xs)
parts_of xs tree = (tree.rooted, record { only = tree.only_root }, record { apart = tree.apart }, record { reached = tree.reached })

pub ruleset tree_parts = (tree_of, parts_of)
