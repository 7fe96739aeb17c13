-- Hidden files that still exist.
use Rattle.std.specs.Prelude.{ℕ, ◌<◌, ◌≡◌, ◌↔◌, true, List, Some, All, AllPairs, Contains}
use Rattle.std.specs.List.{AllZip}
use Rattle.paths.specs.Prefixes.{Names}
use Rattle.paths.specs.Hidden.{is_reserved}
use Rattle.tree.specs.declared.nodes.Key.{Key}
use Rattle.tree.specs.declared.nodes.Node.{Node}
use Rattle.tree.specs.declared.nodes.Place.TheVariants.{Named}
use Rattle.tree.specs.Places.{Lookup, IsPathOf}

-- a file that was hidden: it has a hidden mark, and a name that the server keeps for itself
pub record IsHidden (x : Node) : Type 0 where
  pub mark : x.hidden ≡ true
  pub key : Key
  pub named : x.place ≡ Named key
  pub reserved : is_reserved key.name ≡ true

-- such a node has the number
pub record IsMarked (at : Lookup) (n : ℕ) : Type 0 where
  pub node : Node
  pub here : at n ≡ Some node
  pub hidden : IsHidden node

-- the paths of all files that were hidden, sorted by node number
pub record AreLeftovers (at : Lookup) (paths : List Names) : Type 0 where
  pub numbers : List ℕ
  pub rising : AllPairs (λ (m n : ℕ). m < n) numbers
  pub marked : (n : ℕ) → Contains numbers n ↔ IsMarked at n
  pub leads : AllZip (IsPathOf at) numbers paths

-- the same for the nodes below a bound
pub record AreLeftBelow (at : Lookup) (bound : ℕ) (paths : List Names) : Type 0 where
  pub numbers : List ℕ
  pub below : All (λ (n : ℕ). n < bound) numbers
  pub rising : AllPairs (λ (m n : ℕ). m < n) numbers
  pub marked : (n : ℕ) → n < bound → Contains numbers n ↔ IsMarked at n
  pub leads : AllZip (IsPathOf at) numbers paths
