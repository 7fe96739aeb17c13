-- The names in a folder, and what looks have shown there.
use Rattle.std.specs.Prelude.{◌≡◌, List, [], ◌∷◌, ◌++◌, Option, Some, None, map}
use Rattle.paths.specs.Prefixes.{Name, Names}
use Rattle.backing.specs.declared.call.Child.{Child}
use Rattle.backing.specs.declared.entries.Item.TheVariants.{Folder}
use Rattle.backing.specs.Tree.{Tree}
use Rattle.disk.specs.Answers.{ListsNames}
use Rattle.disk_folder.specs.declared.look.Seen.{Seen}
use Rattle.disk_folder.specs.declared.listing.SeenName.{SeenName}
use Rattle.disk_folder.specs.Seen.{IsSeen}

-- what stands at q, or nothing does
abbrev pub IsNamed : Tree → Names → Option Seen → Type 0
IsNamed at q None = at q ≡ None
IsNamed at q (Some seen) = IsSeen at q seen

-- each stands in p under its name
abbrev pub EachSeen : Tree → Names → List SeenName → Type 0
EachSeen at p [] = Unit {0}
EachSeen at p (one ∷ seen) = IsSeen at (p ++ one.name ∷ []) one.seen × EachSeen at p seen

-- these are the names, and each stands in p under its name
pub record AreSeen (at : Tree) (p : Names) (names : List Name) (seen : List SeenName) : Type 0 where
  pub same : map (λ (one : SeenName). one.name) seen ≡ names
  pub each : EachSeen at p seen

-- a folder stands at p, and these are all names in it
pub record IsListing (at : Tree) (p : Names) (seen : List SeenName) : Type 0 where
  pub folder : at p ≡ Some Folder
  pub names : List Name
  pub lists : ListsNames at p names
  pub are : AreSeen at p names seen

-- the names and their kinds
abbrev pub children_of : List SeenName → List Child
children_of seen = map (λ (one : SeenName). record { name = one.name; kind = one.seen.kind }) seen

-- one more, if anything was seen at the name
abbrev pub with_one : List SeenName → Name → Option Seen → List SeenName
with_one seen name None = seen
with_one seen name (Some one) = seen ++ record { name = name; seen = one } ∷ []
