-- How many requests hold each path.
use Rattle.std.specs.Prelude.{ℕ, ◌+◌, ◌*◌, ◌^◌, ◌<◌, ◌≤◌, ◌≡◌, ◌⊎◌, nat_eq, if◌then◌else◌, Bool, List, Some, Any, unwrap_or}
use Rattle.std.specs.Cmp.Lexicographic.{pointwise}
use Rattle.paths.specs.Prefixes.{Names}
use Rattle.collections.specs.Living.{found, live, places}
use Rattle.holds.specs.declared.held.Held.{Held}
use Rattle.holds.specs.declared.numbers.Holders.{Holders}
use Rattle.holds.specs.declared.numbers.HoldNumbers.{HoldNumbers}
use Rattle.holds.specs.Conflicts.{is_among}

-- both have the same names
abbrev pub is_same_path : Names → Names → Bool
is_same_path = pointwise (pointwise nat_eq)

-- no request holds the path
abbrev pub no_holders : Holders
no_holders = record { shared = 0; exclusive = 0 }

-- the two numbers of the path
abbrev pub holders_on : HoldNumbers → Names → Holders
holders_on numbers path = unwrap_or (found is_same_path numbers.by_path path) no_holders

-- what a request with these paths adds to the number of this path: once, even if the path is in the list several times
abbrev pub counted_in : List Names → Names → ℕ → ℕ
counted_in paths path one = if is_among paths path then one else 0

-- the map has the numbers of each held path, and no entry for a path without holders
pub record AreNumbers (numbers : HoldNumbers) : Type 0 where
  pub counted : numbers.paths ≡ live numbers.by_path
  pub held : (path : Names) (h : Holders) → found is_same_path numbers.by_path path ≡ Some h → 0 < h.shared + h.exclusive

-- that many more paths need no allocation
pub record HasPlaces (numbers : HoldNumbers) (more : ℕ) : Type 0 where
  pub places : 2 * (live numbers.by_path + more) ≤ places numbers.by_path
  pub few : live numbers.by_path + more < 2 ^ 64

-- the numbers of each path in the list rise by these, and the others do not change
pub record Raises (old : HoldNumbers) (paths : List Names) (one : Holders) (new : HoldNumbers) : Type 0 where
  pub shared : (path : Names) → (holders_on new path).shared ≡ (holders_on old path).shared + counted_in paths path one.shared
  pub exclusive : (path : Names) → (holders_on new path).exclusive ≡ (holders_on old path).exclusive + counted_in paths path one.exclusive

-- one more request holds this
pub record Adds (old : HoldNumbers) (held : Held) (new : HoldNumbers) : Type 0 where
  pub shared : (path : Names) → (holders_on new path).shared ≡ (holders_on old path).shared + counted_in held.shared path 1
  pub exclusive : (path : Names) → (holders_on new path).exclusive ≡ (holders_on old path).exclusive + counted_in held.exclusive path 1

-- a path that is wanted exclusively is held by some request, or one that is wanted shared is held exclusively
abbrev pub IsHeldUp : HoldNumbers → Held → Type 0
IsHeldUp numbers wanted =
    Any (λ path. 0 < (holders_on numbers path).shared + (holders_on numbers path).exclusive) wanted.exclusive
    ⊎ Any (λ path. 0 < (holders_on numbers path).exclusive) wanted.shared
