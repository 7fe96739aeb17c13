-- What a footprint reserves, for a given state of the nodes. Nothing here depends on the want.
use Rattle.std.specs.Prelude.{ℕ, ℤ, ◌*◌, ◌<◌, ◌≡◌, ◌≢◌, ◌↔◌, ◌⊎◌, if◌then◌else◌, is_some, true, List, [], ◌∷◌, map, length, All, Any, Contains}
use Rattle.errno.specs.declared.TheConstants.{EINVAL, ENAMETOOLONG, ENOMEM, ENOTEMPTY, ESTALE}
use Rattle.paths.specs.Prefixes.{Names, is_prefix, path_bytes}
use Rattle.holds.specs.declared.held.Held.{Held}
use Rattle.holds.specs.declared.held.GivenPath.{GivenPath}
use Rattle.holds.specs.Conflicts.{IsSomePrefix}
use Rattle.table_requests.specs.declared.data.Promise.{Promise}
use Rattle.tree.specs.Places.{Lookup, IsNamed, IsPathOf, Leads}
use Rattle.tree.specs.Moves.{IsPathOfName}
use Rattle.table_footprints.specs.Footprints.{Change, Footprint, Location, AtName, AtNode, cuts, exchanges, hides, moves, replaces, stays}

-- ---- locations

-- the path of its node, or that of its parent followed by its name
abbrev pub HasPath : Lookup → Location → Names → Type 0
HasPath at (AtNode number) path = IsPathOf at number path
HasPath at (AtName parent name) path = IsPathOfName at parent name path

abbrev pub IsThere : Lookup → Location → ℕ → Type 0
IsThere at (AtNode number) n = n ≡ number
IsThere at (AtName parent name) n = IsNamed at n parent name

-- ---- tests of the nodes alone

-- a node that the footprint names is not alive, or is cut
pub record IsStale (at : Lookup) (d : Footprint) : Type 0 where
  pub number : ℕ
  pub named : Contains d.given number
  pub lost : Leads at number → ⊥

-- a path of the ticket is longer than 4,096 bytes
pub record IsLong (at : Lookup) (d : Footprint) : Type 0 where
  pub location : Location
  pub asked : Contains d.paths location
  pub path : Names
  pub leads : HasPath at location path
  pub long : 4096 < path_bytes path

-- the path leads to the other one, which is longer
pub record IsProperPrefix (prefix path : Names) : Type 0 where
  pub begins : is_prefix prefix path ≡ true
  pub other : prefix ≢ path

-- why a path may not be moved to another: it would be moved into itself, or onto a folder that contains it
abbrev pub IsRefusedMove : Names → Names → ℤ → Type 0
IsRefusedMove source target e = ((e ≡ EINVAL) × IsProperPrefix source target) ⊎ ((e ≡ ENOTEMPTY) × IsProperPrefix target source)

-- the paths of the two locations, the first of which may not be moved to the second
pub record IsRefusedAt (at : Lookup) (source target : Location) (e : ℤ) : Type 0 where
  pub path : Names
  pub leads : HasPath at source path
  pub new_path : Names
  pub new_leads : HasPath at target new_path
  pub refused : IsRefusedMove path new_path e

-- why two paths may not be exchanged: one of them leads to the other
abbrev pub IsRefusedExchange : Names → Names → ℤ → Type 0
IsRefusedExchange source target e = (e ≡ EINVAL) × (IsProperPrefix source target ⊎ IsProperPrefix target source)

-- the paths of the two locations, which may not be exchanged
pub record IsRefusedBetween (at : Lookup) (source target : Location) (e : ℤ) : Type 0 where
  pub path : Names
  pub leads : HasPath at source path
  pub new_path : Names
  pub new_leads : HasPath at target new_path
  pub refused : IsRefusedExchange path new_path e

abbrev pub IsMisplaced : Lookup → Change → ℤ → Type 0
IsMisplaced at stays e = ⊥
IsMisplaced at (cuts l) e = ⊥
IsMisplaced at (moves source target) e = IsRefusedAt at source target e
IsMisplaced at (hides l candidate) e = IsRefusedAt at l candidate e
IsMisplaced at (replaces source target candidate moved) e = IsRefusedAt at source target e ⊎ IsRefusedAt at target candidate e
IsMisplaced at (exchanges source target) e = IsRefusedBetween at source target e

-- none of these tests refuses the footprint
pub record IsSound (at : Lookup) (d : Footprint) : Type 0 where
  pub not_stale : IsStale at d → ⊥
  pub not_long : IsLong at d → ⊥
  pub not_misplaced : (e : ℤ) → IsMisplaced at d.done e → ⊥

-- the first of these tests that refuses it; out of memory may come in place of any but the first
pub data IsUnsound (at : Lookup) (d : Footprint) (e : ℤ) : Type 0 where
  stale : e ≡ ESTALE → IsStale at d → IsUnsound at d e
  long : e ≡ ENAMETOOLONG → (IsStale at d → ⊥) → IsLong at d → IsUnsound at d e
  misplaced : (IsStale at d → ⊥) → (IsLong at d → ⊥) → IsMisplaced at d.done e → IsUnsound at d e
  no_memory : e ≡ ENOMEM → (IsStale at d → ⊥) → IsUnsound at d e

-- ---- holds

-- a nonempty prefix of the location's path
pub record IsPrefixAt (at : Lookup) (p : Names) (l : Location) : Type 0 where
  pub path : Names
  pub leads : HasPath at l path
  pub begins : IsSomePrefix p path

-- the same, except for the whole path
pub record IsAboveAt (at : Lookup) (p : Names) (l : Location) : Type 0 where
  pub path : Names
  pub leads : HasPath at l path
  pub begins : IsSomePrefix p path
  pub other : p ≢ path

abbrev pub IsShared : Lookup → Footprint → Names → Type 0
IsShared at d p = Any (IsPrefixAt at p) d.shared ⊎ Any (IsAboveAt at p) d.exclusive

abbrev pub IsExclusive : Lookup → Footprint → Names → Type 0
IsExclusive at d p = Any (λ l. HasPath at l p) d.exclusive

-- the nodes that the footprint names, in order and each with its path, and the paths that it shares and holds
-- exclusively
pub record Holds (at : Lookup) (d : Footprint) (held : Held) : Type 0 where
  pub numbers : map (λ (lead : GivenPath). lead.number) held.given ≡ d.given
  pub leads : All (λ (lead : GivenPath). IsPathOf at lead.number lead.path) held.given
  pub shared : (p : Names) → Contains held.shared p ↔ IsShared at d p
  pub exclusive : (p : Names) → Contains held.exclusive p ↔ IsExclusive at d p

-- ---- pins, promises and tickets

-- a node that is named, or that is at a path of the ticket
abbrev pub IsPin : Lookup → Footprint → ℕ → Type 0
IsPin at d n = Contains d.given n ⊎ Any (λ l. IsThere at l n) d.paths

-- three postings for each entry: its birth, the entry itself, and the one that takes it back; and one file that may be
-- opened
abbrev pub promise_of : Footprint → Promise
promise_of d = record { nodes = d.births; postings = 3 * length d.entries; files = if is_some d.opens then 1 else 0 }

-- these are the paths of the locations, in order
abbrev pub ArePaths : Lookup → List Location → List Names → Type 0
ArePaths at [] paths = paths ≡ []
ArePaths at (l ∷ ls) paths = (path : Names) × (rest : List Names) × (paths ≡ path ∷ rest) × HasPath at l path × ArePaths at ls rest
