-- What stands in a disk in memory: a list of paths, each with a number that leads to it.
use Rattle.std.specs.Prelude.{ℕ, ℤ, ◌≡◌, ◌<◌, ◌≤◌, ◌==◌, if◌then◌else◌, length, map, take, drop, slice_get, slice_set, List, [], ◌∷◌, false, Option, Some, None, IsSome, Result, Ok, Err}
use Rattle.std.specs.List.{remove}
use Rattle.paths.specs.Prefixes.{Names, is_prefix}
use Rattle.backing.specs.declared.entries.Item.{Item}
use Rattle.backing.specs.declared.entries.Item.TheVariants as items
use Rattle.backing.specs.declared.entries.TreeEntry.{TreeEntry}
use Rattle.backing.specs.Tree.{Tree, IsTree, IsFolder as IsFolderItem, IsOther, IsBare, HasNames, moved}
use Rattle.backing.specs.Entries.{look, IsDistinct}
use Rattle.disk.specs.declared.spot.Content.{Content}
use Rattle.disk.specs.declared.spot.Content.TheVariants.{Folder, File, Link, Special}
use Rattle.disk.specs.declared.spot.Spot.{Spot}
use Rattle.disk.specs.declared.spot.MemoryHandle.{MemoryHandle}
use Rattle.disk.specs.declared.error.DiskError.{DiskError}
use Rattle.disk.specs.declared.error.DiskError.TheVariants.{Absent, Exists, NotFolder, IsFolder, NotEmpty, Failed}
use Rattle.disk.specs.Reached.{reached}
use Rattle.errno.specs.declared.TheConstants.{EPERM}
use Rattle.disk.specs.Answers.{new_path}

abbrev pub item_of : Content → Item
item_of Folder = items.Folder
item_of (File bytes) = items.File bytes
item_of (Link text) = items.Link text
item_of (Special special) = items.Special special

abbrev pub entry_of : Spot → TreeEntry
entry_of spot = record { path = spot.path; item = item_of spot.content }

abbrev pub entries_of : List Spot → List TreeEntry
entries_of spots = map entry_of spots

-- what stands at each path that folders lead down to
unfoldable pub tree_of : List Spot → Tree
tree_of spots = reached (look (entries_of spots))

-- the path of the first spot of that number
abbrev pub path_of : List Spot → ℕ → Option Names
path_of [] n = None
path_of (spot ∷ spots) n = if spot.number == n then Some spot.path else path_of spots n

-- What is open stands where its number leads.
abbrev pub stands_in : List Spot → MemoryHandle → Names → Type 0
stands_in spots handle p = path_of spots handle.number ≡ Some p

-- no number comes twice
abbrev pub IsNumbered : List Spot → Type 0
IsNumbered [] = Unit {0}
IsNumbered (spot ∷ spots) = (path_of spots spot.number ≡ None) × IsNumbered spots

-- The paths are those of a tree, the root is number 0, and each path and each number is there once.
pub record IsLawful (spots : List Spot) : Type 0 where
  pub distinct : IsDistinct (entries_of spots)
  pub numbered : IsNumbered spots
  pub tree : IsTree (look (entries_of spots))
  pub root : path_of spots 0 ≡ Some []

-- Each number below the next one may have been given.
pub record IsSound (spots : List Spot) (next : ℕ) : Type 0 where
  pub lawful : IsLawful spots
  pub fresh : (n : ℕ) → next ≤ n → path_of spots n ≡ None

-- The spot of that index is the only one of the path, and of its number.
pub record IsSpotAt (spots : List Spot) (p : Names) (index : ℕ) : Type 0 where
  pub within : index < length spots
  pub spot : Spot
  pub is : slice_get spots index ≡ Some spot
  pub path : spot.path ≡ p
  pub stands : tree_of spots p ≡ Some (item_of spot.content)
  pub leads : path_of spots spot.number ≡ Some p

-- That number leads to the path of the spot of that index.
pub record LeadsTo (spots : List Spot) (number index : ℕ) : Type 0 where
  pub path : Names
  pub leads : path_of spots number ≡ Some path
  pub at : IsSpotAt spots path index

-- The spot stands at the path.
pub record IsSpot (spots : List Spot) (p : Names) (spot : Spot) : Type 0 where
  pub path : spot.path ≡ p
  pub stands : tree_of spots p ≡ Some (item_of spot.content)
  pub leads : path_of spots spot.number ≡ Some p

-- No number comes, but for the new one.
abbrev pub NoneComes : List Spot → List Spot → Type 0
NoneComes old new = (n : ℕ) → path_of old n ≡ None → path_of new n ≡ None

-- without the spot of that index, if there is one
abbrev pub Clears : List Spot → Option ℕ → List Spot → Type 0
Clears old None new = new ≡ old
Clears old (Some index) new = new ≡ remove old index

-- What stood at s or below it stands at t or below it, and so with the numbers; what stood at t is gone.
pub record MovesAll (old : List Spot) (s t : Names) (new : List Spot) : Type 0 where
  pub tree : tree_of new ≡ moved (tree_of old) s t
  pub stay : (n : ℕ) (p : Names) → is_prefix t p ≡ false → path_of old n ≡ Some p → path_of new n ≡ Some (new_path s t p)
  pub none : NoneComes old new

-- what a rename needs
pub record CanMove (at : Tree) (s t : Names) : Type 0 where
  pub source : IsSome (at s)
  pub no_other_on_folder : IsOther (at s) → IsFolderItem (at t) → ⊥
  pub no_folder_on_other : IsFolderItem (at s) → IsOther (at t) → ⊥
  pub bare : IsBare at t

-- why it is not there
abbrev pub CannotMove : Tree → Names → Names → DiskError → Type 0
CannotMove at s t Absent = at s ≡ None
CannotMove at s t IsFolder = IsOther (at s) × IsFolderItem (at t)
CannotMove at s t NotFolder = IsFolderItem (at s) × IsOther (at t)
CannotMove at s t NotEmpty = IsFolderItem (at s) × IsFolderItem (at t) × HasNames at t
CannotMove at s t Exists = ⊥
CannotMove at s t (Failed errno) = ⊥

-- why what stands at s gets no further name t
abbrev pub CannotLink : Tree → Names → Names → DiskError → Type 0
CannotLink at s t Absent = at s ≡ None
CannotLink at s t Exists = IsSome (at s) × IsSome (at t)
CannotLink at s t (Failed errno) = IsSome (at s) × (at t ≡ None) × (errno ≡ EPERM)
CannotLink at s t NotFolder = ⊥
CannotLink at s t IsFolder = ⊥
CannotLink at s t NotEmpty = ⊥

-- an error that says nothing
abbrev pub IsFailure : DiskError → Type 0
IsFailure error = (errno : ℤ) × (error ≡ Failed errno)

abbrev pub with_path : Spot → Names → Spot
with_path spot p = record spot { path = p }

-- the spot with its path when s is renamed t
abbrev pub renamed : Names → Names → Spot → Spot
renamed s t spot = with_path spot (new_path s t spot.path)

-- each spot with its new path
abbrev pub with_paths : List Spot → List Names → List Spot
with_paths [] paths = []
with_paths (spot ∷ spots) [] = spot ∷ spots
with_paths (spot ∷ spots) (p ∷ paths) = with_path spot p ∷ with_paths spots paths

-- The bytes at the buffer's start are n of the file's, from the offset on; none at its end alone.
abbrev pub HasPart : Item → ℕ → ℕ → List ℕ → Type 0
HasPart (items.File bytes) offset n buffer = (take n buffer ≡ take n (drop offset bytes)) × (n ≤ length (drop offset bytes)) × (n ≡ 0 → length bytes ≤ offset)
HasPart item offset n buffer = ⊥

-- It is a file before and after, with these bytes then.
pub record ChangesBytes (old : Content) (change : List ℕ → List ℕ) (new : Content) : Type 0 where
  pub bytes : List ℕ
  pub was : old ≡ File bytes
  pub is : new ≡ File (change bytes)

-- The spot of that index has other bytes.
pub record ChangesAt (old : List Spot) (index : ℕ) (change : List ℕ → List ℕ) (new : List Spot) : Type 0 where
  pub spot : Spot
  pub is : slice_get old index ≡ Some spot
  pub content : Content
  pub changes : ChangesBytes spot.content change content
  pub set : new ≡ slice_set old index (record spot { content = content })

-- Whether what stands there is of a kind that the other may replace.
abbrev pub FitsKinds : Content → Content → Result (Unit {0}) DiskError → Type 0
FitsKinds Folder Folder result = result ≡ Ok tt
FitsKinds Folder other result = result ≡ Err NotFolder
FitsKinds other Folder result = result ≡ Err IsFolder
FitsKinds other another result = result ≡ Ok tt
