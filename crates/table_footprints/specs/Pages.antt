-- What the code collects for a page: a folder, and names that are not held.
use Rattle.std.specs.Prelude.{ℕ, ◌+◌, ◌≡◌, ◌≤◌, ◌↔◌, ◌⊎◌, List, [], ◌∷◌, ◌++◌, Some, All, Any, Contains, map}
use Rattle.std.specs.List.{AllZip}
use Rattle.paths.specs.Prefixes.{Names}
use Rattle.holds.specs.declared.held.GivenPath.{GivenPath}
use Rattle.tree.specs.Places.{Lookup, IsPathOf}
use Rattle.table_footprints.specs.declared.gatherings.Gathering.{Gathering}
use Rattle.table_footprints.specs.declared.in_folder.FoundName.{FoundName}
use Rattle.table_footprints.specs.Asked.{IsPrefixAt, IsThere}
use Rattle.table_footprints.specs.Gatherings.{IsShortPath}
use Rattle.table_footprints.specs.Footprints.{Location, AtNode}

-- one more name, which is not held
pub record AddsName (old : Gathering) (f : FoundName) (new : Gathering) : Type 0 where
  pub given : new.given ≡ old.given
  pub shared : new.shared ≡ old.shared
  pub exclusive : new.exclusive ≡ old.exclusive
  pub paths : new.paths ≡ old.paths ++ f.path ∷ []
  pub pins : (n : ℕ) → Contains new.pins.numbers n ↔ (Contains old.pins.numbers n ⊎ (f.node ≡ Some n))
  pub room : old.pins.room ≤ new.pins.room + 1

-- everything that was found at the folder and at these names
pub record IsPage (at : Lookup) (folder : ℕ) (ls : List Location) (x : Gathering) : Type 0 where
  pub numbers : map (λ (lead : GivenPath). lead.number) x.given ≡ folder ∷ []
  pub leads : All (λ (lead : GivenPath). IsPathOf at lead.number lead.path) x.given
  pub shared : (p : Names) → Contains x.shared p ↔ Any (IsPrefixAt at p) (AtNode folder ∷ [])
  pub exclusive : x.exclusive ≡ []
  pub paths : AllZip (IsShortPath at) (AtNode folder ∷ ls) x.paths
  pub pins : (n : ℕ) → Contains x.pins.numbers n ↔ ((folder ≡ n) ⊎ Any (λ l. IsThere at l n) (AtNode folder ∷ ls))
