-- The living nodes, as the end of a period lists them.
use Rattle.std.specs.Prelude.{ℕ, ◌<◌, ◌≤◌, ◌≡◌, List, Some, All, AllPairs, Contains, option_map, unwrap_or}
use Rattle.ledger.specs.declared.postings.Posting.{Posting}
use Rattle.ledger.specs.declared.postings.Posting.TheVariants.{Opening}
use Rattle.ledger.specs.Sums.{generation_of, number_of}
use Rattle.tree.specs.declared.nodes.Node.{Node}
use Rattle.tree.specs.Places.{Lookup}

-- a node other than the root has the number and that generation, and the number is not above the last one
pub record IsLivingUpTo (at : Lookup) (last : ℕ) (a : ℕ × ℕ) : Type 0 where
  pub node : Node
  pub here : at a.0 ≡ Some node
  pub generation : node.generation ≡ a.1
  pub not_root : 1 < a.0
  pub within : a.0 ≤ last

-- these are the numbers and generations of all of them, sorted by number
pub record AreLivingUpTo (at : Lookup) (last : ℕ) (pairs : List (ℕ × ℕ)) : Type 0 where
  pub rising : AllPairs (λ (a b : ℕ × ℕ). a.0 < b.0) pairs
  pub each : All (IsLivingUpTo at last) pairs
  pub all : (n : ℕ) (x : Node) → at n ≡ Some x → 1 < n → n ≤ last → Contains pairs (n, x.generation)

-- the numbers and generations of all nodes except the root, sorted by number
pub record AreLiving (at : Lookup) (pairs : List (ℕ × ℕ)) : Type 0 where
  pub last : ℕ
  pub up_to : AreLivingUpTo at last pairs
  pub no_more : (n : ℕ) (x : Node) → at n ≡ Some x → (0 < n) × (n ≤ last)

-- the number and the generation of a posting
abbrev pub life_of : Posting → ℕ × ℕ
life_of p = (number_of p, generation_of p)

-- what a period begins with for the node with this number
abbrev pub opening_at : Lookup → ℕ × ℕ → Posting
opening_at at a = Opening a.0 a.1 (unwrap_or (option_map (λ (x : Node). x.count) (at a.0)) 0)
