-- What looks have shown, as it is remembered.
use Rattle.std.specs.Prelude.{[], ◌∷◌, ◌++◌, Option, Some, None}
use Rattle.std.specs.List.{All}
use Rattle.backing.specs.Tree.{Tree}
use Rattle.disk_folder.specs.declared.listed.Listed.{Listed}
use Rattle.disk_folder.specs.declared.listing.SeenName.{SeenName}
use Rattle.disk_folder.specs.Seen.{IsSeen}

-- what was seen at each name stands there
abbrev pub IsListed : Tree → Option Listed → Type 0
IsListed at None = Unit {0}
IsListed at (Some listed) = All (λ (one : SeenName). IsSeen at (listed.path ++ one.name ∷ []) one.seen) listed.seen.items
