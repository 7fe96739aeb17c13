-- What the code finds at names in one folder.
use Rattle.std.specs.Prelude.{ℕ, ◌-◌, ◌≡◌, ◌≤◌, ◌↔◌, Some}
use Rattle.paths.specs.Prefixes.{path_bytes}
use Rattle.tree.specs.Places.{Lookup, IsPathOf}
use Rattle.table_footprints.specs.declared.in_folder.FolderPath.{FolderPath}
use Rattle.table_footprints.specs.declared.in_folder.FoundName.{FoundName}
use Rattle.table_footprints.specs.Asked.{HasPath, IsThere}
use Rattle.table_footprints.specs.Footprints.{Location}

-- the path of the folder, and how many bytes more a path may have
pub record IsFolderPath (at : Lookup) (folder : ℕ) (place : FolderPath) : Type 0 where
  pub leads : IsPathOf at folder place.path
  pub room : place.room ≡ 4096 - path_bytes place.path

-- what is at the location of a name
pub record IsNameFound (at : Lookup) (l : Location) (f : FoundName) : Type 0 where
  pub path : HasPath at l f.path
  pub short : path_bytes f.path ≤ 4096
  pub node : (n : ℕ) → (f.node ≡ Some n) ↔ IsThere at l n
