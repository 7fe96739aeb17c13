-- How many files of each node are open, by the node's number.
use Rattle.std.specs.Prelude.{ℕ, ◌+◌, ◌-◌, ◌<◌, ◌≡◌, nat_eq, Option, Some, unwrap_or}
use Rattle.indexmap.specs.IndexMap.{IndexMap}
use Rattle.collections.specs.Living.{found, live}
use Rattle.collections.specs.Sum.{IsSum}

module _ {S : Type 0} where
  -- how many files of the node are open, according to the map
  abbrev pub openings_in : IndexMap ℕ (Option ℕ) S → ℕ → ℕ
  openings_in m n = unwrap_or (found nat_eq m n) 0

  -- that many nodes have open files, and that many files are open in all
  pub record AddUpTo (m : IndexMap ℕ (Option ℕ) S) (nodes total : ℕ) : Type 0 where
    pub alive : nodes ≡ live m
    -- a node has a count as long as a file of it is open
    pub some : (n count : ℕ) → found nat_eq m n ≡ Some count → 0 < count
    -- how many open files are not the first ones of their nodes
    pub others : ℕ
    pub sum : IsSum (found nat_eq m) (λ count. count - 1) others
    pub all : nodes + others ≡ total
