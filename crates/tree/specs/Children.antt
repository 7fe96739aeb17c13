-- The parents of nodes.
use Rattle.std.specs.Prelude.{ℕ, Option, Some, None}
use Rattle.tree.specs.declared.nodes.Node.{Node}
use Rattle.tree.specs.declared.nodes.Place.{Place}
use Rattle.tree.specs.declared.nodes.Place.TheVariants as place
use Rattle.tree.specs.Places.{Lookup}

-- the parent of a place, if it has one
abbrev pub place_parent : Place → Option ℕ
place_parent place.Root = None
place_parent (place.Named key) = Some key.parent
place_parent place.Cut = None

-- the parent of a node, if the node exists and has one
abbrev pub node_parent : Option Node → Option ℕ
node_parent None = None
node_parent (Some x) = place_parent x.place

-- each node's parent, by the number of the node
abbrev pub parents_in : Lookup → ℕ → Option ℕ
parents_in at n = node_parent (at n)
