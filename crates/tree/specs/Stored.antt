-- Nodes in a slab, where the key is the number less one, with the links of their children, and an index from parents
-- and names to numbers.
use Rattle.std.specs.Prelude.{ℕ, ◌+◌, ◌*◌, ◌≤◌, ◌≡◌, ◌^◌, nat_lt, if◌then◌else◌, List, [], ◌∷◌, Option, Some, None, Vec, vec_len, vec_capacity}
use Rattle.indexmap.specs.IndexMap.{IndexMap}
use Rattle.std.specs.declared.alloc.Global.{Global}
use Rattle.slab.specs.Slab.{Slab, slab_len}
use Rattle.collections.specs.Living.{found, live, places}
use Rattle.collections.specs.declared.children.Linked.{Linked}
use Rattle.collections.specs.Links.{IsLawful, value_at}
use Rattle.tree.specs.Children.{parents_in}
use Rattle.tree.specs.declared.nodes.Key.{Key}
use Rattle.tree.specs.declared.nodes.Node.{Node}
use Rattle.tree.specs.Keys.{same_key}
use Rattle.tree.specs.Listed.{next_of}
use Rattle.tree.specs.Places.{Lookup, IsNamed, IsTree}

-- the node with that number
abbrev pub slot_at : Slab (Linked Node) → Lookup
slot_at s = value_at s

-- the nodes sorted by number
abbrev pub listed : List (Option (Linked Node)) → List Node
listed [] = []
listed (None ∷ rest) = listed rest
listed (Some l ∷ rest) = l.value ∷ listed rest

-- the index has exactly the numbers of the named nodes
pub record IsIndexed {S : Type 0} (at : Lookup) (m : IndexMap Key (Option ℕ) S) : Type 0 where
  pub sound : (k : Key) (n : ℕ) → found same_key m k ≡ Some n → IsNamed at n k.parent k.name
  pub whole : (k : Key) (n : ℕ) → IsNamed at n k.parent k.name → found same_key m k ≡ Some n

-- the invariant of what is stored
pub record IsStored {S : Type 0} (nodes : Slab (Linked Node)) (index : IndexMap Key (Option ℕ) S) (named : ℕ) : Type 0 where
  pub tree : IsTree (slot_at nodes)
  pub indexed : IsIndexed (slot_at nodes) index
  -- the links fit the parents of the nodes
  pub related : IsLawful (parents_in (slot_at nodes)) nodes
  pub counted : named ≡ live index

-- that many births are allowed and do not allocate
pub record HasRoom {S : Type 0} (nodes : Slab (Linked Node)) (index : IndexMap Key (Option ℕ) S) (named room limit : ℕ) : Type 0 where
  pub slots : slab_len nodes + room ≤ nodes.capacity
  pub keys : 2 * (named + room) ≤ places index
  pub within : slab_len nodes + room ≤ limit
  pub few : slab_len nodes + room ≤ 2 ^ 62

-- the number of the next birth: the slab's next key plus one, or the least free number if that does not fit 64 bits
unfoldable pub next_number : Slab (Linked Node) → ℕ
next_number s = if nat_lt (s.vacant_key + 1) (2 ^ 64) then s.vacant_key + 1 else next_of (listed s.slots)

-- the invariant of a tree: the list of newly cut nodes has room for each named node, and for each birth that does not
-- allocate
pub record IsHeld {S : Type 0} (nodes : Slab (Linked Node)) (index : IndexMap Key (Option ℕ) S) (newly_cut : Vec ℕ Global) (named room limit : ℕ) : Type 0 where
  pub stored : IsStored nodes index named
  pub reserved : HasRoom nodes index named room limit
  pub lists : vec_len newly_cut + (named + room) ≤ vec_capacity newly_cut
