-- What requests in flight hold, and when two of them conflict.
use Rattle.std.specs.Prelude.{◌≡◌, ◌≢◌, ◌⊎◌, ◌&&◌, Bool, true, List, [], Contains, Any}
use Rattle.std.specs.List.{list_any}
use Rattle.paths.specs.Prefixes.{Names, is_prefix}
use Rattle.holds.specs.declared.held.Held.{Held}

-- some path is in both lists
abbrev pub Overlaps : List Names → List Names → Type 0
Overlaps ps qs = Any (λ path. Contains qs path) ps

-- an exclusive name of the first is a shared or exclusive name of the second
abbrev pub Excludes : Held → Held → Type 0
Excludes h k = Overlaps h.exclusive k.exclusive ⊎ Overlaps h.exclusive k.shared

-- an exclusive name of one of them is a name of the other
abbrev pub Conflict : Held → Held → Type 0
Conflict h k = Excludes h k ⊎ Excludes k h

-- the path is in the list
abbrev pub is_among : List Names → Names → Bool
is_among paths path = list_any (λ p. is_prefix p path && is_prefix path p) paths

-- the path is held
abbrev pub IsHeld : Held → Names → Type 0
IsHeld h path = Contains h.shared path ⊎ Contains h.exclusive path

-- a prefix of the path other than the empty one
pub record IsSomePrefix (prefix path : Names) : Type 0 where
  pub some : prefix ≢ []
  pub begins : is_prefix prefix path ≡ true

-- these are the prefixes of the path other than the empty one
pub record ArePrefixes (names : List Names) (path : Names) : Type 0 where
  pub all : (prefix : Names) → IsSomePrefix prefix path → Contains names prefix
  pub only : (prefix : Names) → Contains names prefix → IsSomePrefix prefix path
