-- What the code collects for names that are removed or replaced, and for the candidates under which a file may be
-- hidden.
use Rattle.std.specs.Prelude.{ℕ, ℤ, ◌+◌, ◌≡◌, ◌≤◌, ◌↔◌, ◌⊎◌, List, [], ◌∷◌, ◌++◌, Some, All, Any, Contains, length, map}
use Rattle.std.specs.List.{AllZip}
use Rattle.paths.specs.Prefixes.{Name, Names}
use Rattle.table_requests.specs.declared.data.Case.{Case}
use Rattle.holds.specs.declared.held.GivenPath.{GivenPath}
use Rattle.tree.specs.Places.{Lookup, IsPathOf}
use Rattle.table_footprints.specs.declared.gatherings.Gathering.{Gathering}
use Rattle.table_footprints.specs.declared.gatherings.Reservation.{Reservation}
use Rattle.table_footprints.specs.declared.in_folder.FoundName.{FoundName}
use Rattle.table_footprints.specs.declared.removals.Gone.{Gone}
use Rattle.table_footprints.specs.declared.footprints.ChangeKind as told_change
use Rattle.table_footprints.specs.declared.footprints.HoldMode.TheVariants.{Exclusive}
use Rattle.table_footprints.specs.declared.footprints.UniformFootprint.{UniformFootprint}
use Rattle.table_footprints.specs.Asked.{HasPath, IsThere, IsUnsound}
use Rattle.table_footprints.specs.Cases.{IsHidingCase, Seen}
use Rattle.table_footprints.specs.Gatherings.{IsFit, IsSharedAt, IsShortPath, IsReservation, change_in, locations_of, told}
use Rattle.table_footprints.specs.Laws.{base_of}
use Rattle.table_footprints.specs.Footprints.{Footprint, Location, AtName, hidden_in, names_under, no_footprint}

-- the locations of the footprint of a name that is removed or replaced, which is the last of them
abbrev pub going_locations : Gone → List Location
going_locations gone = told gone.firsts.now ++ AtName gone.parent gone.name.now ∷ []

-- a footprint whose names are held exclusively, and which removes or replaces the last of them
pub record IsGoing (footprint : UniformFootprint) (gone : Gone) : Type 0 where
  pub fit : IsFit footprint
  pub exclusive : footprint.hold ≡ Exclusive
  pub few : length gone.firsts.now ≤ 1
  pub locations : locations_of footprint ≡ going_locations gone

-- the footprint of these locations, with other names in that folder
abbrev pub going_in : List Location → told_change.ChangeKind → ℕ → List Name → Footprint
going_in ls change folder hidden = record no_footprint {
  given = map (λ l. base_of l) ls;
  paths = ls ++ names_under folder hidden;
  exclusive = ls ++ names_under folder hidden;
  done = change_in change (ls ++ names_under folder hidden);
  candidates = names_under folder hidden;
}

abbrev pub going_footprint : UniformFootprint → Gone → Case → Footprint
going_footprint footprint gone c = going_in (locations_of footprint) footprint.change gone.parent (hidden_in c)

-- one more name that is held exclusively, in addition to those of the footprint
pub record AddsBeside (old : Gathering) (f : FoundName) (new : Gathering) : Type 0 where
  pub given : new.given ≡ old.given
  pub shared : new.shared ≡ old.shared
  pub exclusive : new.exclusive ≡ old.exclusive ++ f.path ∷ []
  pub paths : new.paths ≡ old.paths ++ f.path ∷ []
  pub pins : (n : ℕ) → Contains new.pins.numbers n ↔ (Contains old.pins.numbers n ⊎ (f.node ≡ Some n))
  pub room : old.pins.room ≤ new.pins.room + 1

-- everything that was found at these locations, the first of which determine the nodes
pub record IsGathered (at : Lookup) (firsts all : List Location) (x : Gathering) : Type 0 where
  pub numbers : map (λ (lead : GivenPath). lead.number) x.given ≡ map (λ l. base_of l) firsts
  pub leads : All (λ (lead : GivenPath). IsPathOf at lead.number lead.path) x.given
  pub shared : (p : Names) → Contains x.shared p ↔ Any (IsSharedAt at Exclusive p) firsts
  pub exclusive : (p : Names) → Contains x.exclusive p ↔ Any (λ l. HasPath at l p) all
  pub paths : AllZip (IsShortPath at) all x.paths
  pub pins : (n : ℕ) → Contains x.pins.numbers n ↔ (Contains (map (λ l. base_of l) firsts) n ⊎ Any (λ l. IsThere at l n) all)

-- what the footprint reserves, in the case of the name that is removed or replaced
pub record AreGoingTerms (seen : Seen) (footprint : UniformFootprint) (gone : Gone) (t : Reservation) : Type 0 where
  pub fits : IsHidingCase seen gone.parent gone.name.now gone.may_hide t.case
  pub reservation : IsReservation seen.at (going_footprint footprint gone t.case) t

-- why it is refused in that case
pub record IsRefusedGoing (seen : Seen) (footprint : UniformFootprint) (gone : Gone) (e : ℤ) : Type 0 where
  pub case : Case
  pub fits : IsHidingCase seen gone.parent gone.name.now gone.may_hide case
  pub unsound : IsUnsound seen.at (going_footprint footprint gone case) e
