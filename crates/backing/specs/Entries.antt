-- A tree stored as a flat list of what is below the root.
use Rattle.std.specs.Prelude.{ℕ, ◌≡◌, ◌<◌, length, slice_get, if◌then◌else◌, List, [], ◌∷◌, Some, None}
use Rattle.paths.specs.Prefixes.{Names}
use Rattle.backing.specs.declared.entries.TreeEntry.{TreeEntry}
use Rattle.backing.specs.declared.entries.Item.TheVariants.{Folder}
use Rattle.backing.specs.Tree.{Tree, IsTree, is_path}

-- the item of the first entry with that path
abbrev pub look : List TreeEntry → Tree
look [] q = None
look (entry ∷ entries) q = if is_path entry.path q then Some entry.item else look entries q

-- The root has no entry.
abbrev pub tree_of : List TreeEntry → Tree
tree_of entries [] = Some Folder
tree_of entries (name ∷ names) = look entries (name ∷ names)

-- no path comes twice
abbrev pub IsDistinct : List TreeEntry → Type 0
IsDistinct [] = Unit {0}
IsDistinct (entry ∷ entries) = (look entries entry.path ≡ None) × IsDistinct entries

-- each path comes once, and its parent is a folder
pub record IsEntryTree (entries : List TreeEntry) : Type 0 where
  pub distinct : IsDistinct entries
  pub tree : IsTree (tree_of entries)

-- The entry at that index has the path, and is what is there.
pub record IsFoundAt (entries : List TreeEntry) (p : Names) (index : ℕ) : Type 0 where
  pub within : index < length entries
  pub entry : TreeEntry
  pub is : slice_get entries index ≡ Some entry
  pub path : entry.path ≡ p
  pub stands : look entries p ≡ Some entry.item
