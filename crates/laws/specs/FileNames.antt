-- A folder with one file: its objects, by the file's bytes and its names in the folder.
use Rattle.std.specs.Prelude.{ℕ, Bool, List, [], ◌∷◌, Option, Some, None, if◌then◌else◌}
use Rattle.std.specs.List.{list_any}
use Rattle.std.proofs.Common.{zero, suc}
use Rattle.paths.specs.Prefixes.{Name, is_name}
use Rattle.backing.specs.declared.entries.Item.{Item}
use Rattle.backing.specs.declared.entries.Item.TheVariants.{Folder, File}
use Rattle.laws.specs.declared.object_disk.one_file.FileHandle.{FileHandle}
use Rattle.laws.specs.declared.object_disk.one_file.FileHandle.TheVariants.{Root, OfFile}
use Rattle.laws.specs.Objects.{Objects, Named}

abbrev pub has : List Name → Name → Bool
has names name = list_any (λ other. is_name other name) names

-- object 0 is the root, and object 1 the file
abbrev pub at_in : List Name → Named
at_in names [] = Some 0
at_in names (name ∷ []) = if has names name then Some 1 else None
at_in names (name ∷ below ∷ more) = None

abbrev pub item_in : List ℕ → ℕ → Option Item
item_in bytes zero = Some Folder
item_in bytes (suc zero) = Some (File bytes)
item_in bytes (suc (suc n)) = None

abbrev pub objects_in : List ℕ → List Name → Objects
objects_in bytes names = record { at = at_in names; item = item_in bytes }

-- what is open leads to the file as long as that has a name
abbrev pub opens_in : List Name → FileHandle → Option ℕ
opens_in names Root = Some 0
opens_in [] OfFile = None
opens_in (name ∷ names) OfFile = Some 1
