-- What is proved about footprints.
use Rattle.std.specs.Prelude.{ℕ, ◌≡◌, ◌⊎◌, List, Any, Contains, length}
use Rattle.table_requests.specs.declared.data.Case.{Case}
use Rattle.table_requests.specs.declared.data.Want.{Want}
use Rattle.tree.specs.declared.nodes.Key.{Key}
use Rattle.tree.specs.Places.{IsTree}
use Rattle.table_footprints.specs.Cases.{IsFootprint, Seen}
use Rattle.table_footprints.specs.Footprints.{Change, Footprint, Location, AtName, AtNode, cuts, exchanges, hides, moves, replaces, footprint_of, stays}

-- the node of a location, or the parent of its name
abbrev pub base_of : Location → ℕ
base_of (AtNode number) = number
base_of (AtName parent name) = parent

-- the names that change are held exclusively
abbrev pub AreOwn : List Location → Change → Type 0
AreOwn exclusive stays = Unit {0}
AreOwn exclusive (cuts l) = Contains exclusive l
AreOwn exclusive (moves source target) = Contains exclusive source × Contains exclusive target
AreOwn exclusive (hides l candidate) = Contains exclusive l × Contains exclusive candidate
AreOwn exclusive (replaces source target candidate moved) = Contains exclusive source × Contains exclusive target × Contains exclusive candidate
AreOwn exclusive (exchanges source target) = Contains exclusive source × Contains exclusive target

-- two names under one node
abbrev pub AreSiblings : Location → Location → Type 0
AreSiblings (AtName p a) (AtName q b) = p ≡ q
AreSiblings (AtName p a) (AtNode m) = ⊥
AreSiblings (AtNode n) l = ⊥

-- a name in the same folder as the one that is removed or replaced
abbrev pub IsBeside : Change → Location → Type 0
IsBeside stays l = ⊥
IsBeside (cuts gone) l = AreSiblings gone l
IsBeside (moves source target) l = AreSiblings target l
IsBeside (hides gone candidate) l = ⊥
IsBeside (replaces source target candidate moved) l = ⊥
IsBeside (exchanges source target) l = ⊥

-- the facts about footprints that everything else relies on
pub record IsGrounded (d : Footprint) : Type 0 where
  -- each location is that of a given node, or of a name under one
  pub shared : (l : Location) → Contains d.shared l → Contains d.given (base_of l)
  pub exclusive : (l : Location) → Contains d.exclusive l → Contains d.given (base_of l)
  pub paths : (l : Location) → Contains d.paths l → Contains d.given (base_of l)
  -- the path of each given node is held, or leads to a path that is
  pub covered : (n : ℕ) → Contains d.given n → Any (λ l. base_of l ≡ n) d.shared ⊎ Any (λ l. base_of l ≡ n) d.exclusive
  -- each name has a birth promised for it, or is shared
  pub entered : (d.births ≡ length d.entries) ⊎ ((key : Key) → Contains d.entries key → Contains d.shared (AtName key.parent key.name))
  -- the names that change are held exclusively
  pub own : AreOwn d.exclusive d.done
  -- and so are those that a file may be hidden under, in the same folder as the name that is removed or replaced
  pub hidden : (l : Location) → Contains d.candidates l → Contains d.exclusive l
  pub beside : (l : Location) → Contains d.candidates l → IsBeside d.done l

-- the law of footprints, for all wants and cases
abbrev pub AreGrounded : Type 0
AreGrounded = (want : Want) (case : Case) → IsGrounded (footprint_of want case)

-- a want has one footprint
abbrev pub AreFootprintsFixed : Type 0
AreFootprintsFixed = (seen : Seen) (want : Want) (d e : Footprint) → IsTree seen.at → IsFootprint seen want d → IsFootprint seen want e → d ≡ e
