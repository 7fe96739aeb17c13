-- What an honest system answers, and which objects stand below its folder then. An error by which POSIX has the system say what stands
-- there is true; any other error is one of the device, and says nothing. Calls that only look by a path answer as in a tree by paths.
use Rattle.std.specs.Prelude.{ℕ, ◌≡◌, ◌<◌, ◌≤◌, ◌⊎◌, List, [], true, Option, Some, None, IsSome, Result, Ok, Err, length, take, drop}
use Rattle.paths.specs.Prefixes.{Names, is_prefix}
use Rattle.backing.specs.declared.entries.Item.{Item}
use Rattle.backing.specs.declared.entries.Item.TheVariants.{File}
use Rattle.backing.specs.Files.{written, resized}
use Rattle.backing.specs.Tree.{IsFolder as IsFolderItem, IsOther, HasNames, IsBare, kind_of, size_of}
use Rattle.disk.specs.declared.stat.Stat.{Stat}
use Rattle.disk.specs.declared.error.DiskError.{DiskError}
use Rattle.disk.specs.declared.error.DiskError.TheVariants.{Absent, Exists, NotFolder, IsFolder, NotEmpty, Failed}
use Rattle.laws.specs.Objects.{Objects, Named, HasName, tree_by_paths, with_name, without_name, with_names_moved, with_object, LeadsTo}

-- the look is one at what that is
pub record IsStatOf (found : Option Item) (stat : Stat) : Type 0 where
  pub item : Item
  pub is : found ≡ Some item
  pub kind : stat.kind ≡ Some (kind_of item)
  pub size : stat.size ≡ size_of item

-- what is open is looked at
abbrev pub Inspects : Option Item → Result Stat DiskError → Type 0
Inspects found (Ok stat) = IsStatOf found stat
Inspects found (Err error) = Unit {0}

-- so many bytes of the file, from the offset on; none at its end alone
pub record ReadsPart (found : Option Item) (offset n : ℕ) (buffer : List ℕ) : Type 0 where
  pub bytes : List ℕ
  pub is : found ≡ Some (File bytes)
  pub read : take n buffer ≡ take n (drop offset bytes)
  pub held : n ≤ length (drop offset bytes)
  pub end : n ≡ 0 → length bytes ≤ offset

abbrev pub Reads : Option Item → ℕ → Result ℕ DiskError → List ℕ → Type 0
Reads found offset (Ok n) buffer = ReadsPart found offset n buffer
Reads found offset (Err error) buffer = Unit {0}

-- What is open leads to the object to which it led, while that stands somewhere.
abbrev pub AllLead : {H : Type 0} → Named → (H → Option ℕ) → (H → Option ℕ) → Type 0
AllLead {H} names old new = (handle : H) (object : ℕ) → old handle ≡ Some object → HasName names object → new handle ≡ Some object

-- Each object that stands somewhere is that.
abbrev pub AllAre : Named → (ℕ → Option Item) → (ℕ → Option Item) → Type 0
AllAre names items new = (object : ℕ) → HasName names object → new object ≡ items object

-- The objects stand under these names, and are that. What is open leads where it led.
pub record Becomes {H : Type 0} (names : Named) (items : ℕ → Option Item) (old : H → Option ℕ) (objects : Objects) (new : H → Option ℕ) : Type 0 where
  pub at : objects.at ≡ names
  pub are : AllAre names items objects.item
  pub lead : AllLead names old new

-- nothing that stands is changed
abbrev pub Stays : {H : Type 0} → Objects → (H → Option ℕ) → Objects → (H → Option ℕ) → Type 0
Stays objects old objects' new = Becomes objects.at objects.item old objects' new

-- this is what the object is, at whichever paths it stands
abbrev pub BecomesItem : {H : Type 0} → Objects → (H → Option ℕ) → ℕ → Item → Objects → (H → Option ℕ) → Type 0
BecomesItem objects old object item objects' new = Becomes objects.at (with_object objects.item object item) old objects' new

-- the first n bytes, at least one, stand in the file
pub record WritesPart {H : Type 0} (objects : Objects) (old : H → Option ℕ) (object offset : ℕ) (piece : List ℕ) (n : ℕ) (objects' : Objects) (new : H → Option ℕ) : Type 0 where
  pub some : 0 < n
  pub bytes : List ℕ
  pub was : objects.item object ≡ Some (File bytes)
  pub becomes : BecomesItem objects old object (File (written bytes offset (take n piece))) objects' new

abbrev pub Writes : {H : Type 0} → Objects → (H → Option ℕ) → ℕ → ℕ → List ℕ → Result ℕ DiskError → Objects → (H → Option ℕ) → Type 0
Writes objects old object offset piece (Ok n) objects' new = WritesPart objects old object offset piece n objects' new
Writes objects old object offset piece (Err error) objects' new = Stays objects old objects' new

-- the file has that length
pub record CutsFile {H : Type 0} (objects : Objects) (old : H → Option ℕ) (object size : ℕ) (objects' : Objects) (new : H → Option ℕ) : Type 0 where
  pub bytes : List ℕ
  pub was : objects.item object ≡ Some (File bytes)
  pub becomes : BecomesItem objects old object (File (resized size bytes)) objects' new

-- a device that fails may have done nothing, or all
abbrev pub Cuts : {H : Type 0} → Objects → (H → Option ℕ) → ℕ → ℕ → Result (Unit {0}) DiskError → Objects → (H → Option ℕ) → Type 0
Cuts objects old object size (Ok done) objects' new = CutsFile objects old object size objects' new
Cuts objects old object size (Err (Failed errno)) objects' new = Stays objects old objects' new ⊎ CutsFile objects old object size objects' new
Cuts objects old object size (Err error) objects' new = Stays objects old objects' new

-- an object that stood nowhere stands at q, where nothing stood
pub record MakesItem {H : Type 0} (objects : Objects) (old : H → Option ℕ) (q : Names) (item : Item) (objects' : Objects) (new : H → Option ℕ) : Type 0 where
  pub object : ℕ
  pub fresh : HasName objects.at object → ⊥
  pub free : objects.at q ≡ None
  pub becomes : Becomes (with_name objects.at q object) (with_object objects.item object item) old objects' new

-- why nothing is made, if not for the device, which may then have done nothing, or all
abbrev pub MakesNone : {H : Type 0} → Objects → (H → Option ℕ) → Names → Item → DiskError → Objects → (H → Option ℕ) → Type 0
MakesNone objects old q item Exists objects' new = IsSome (objects.at q) × Stays objects old objects' new
MakesNone objects old q item (Failed errno) objects' new = Stays objects old objects' new ⊎ MakesItem objects old q item objects' new
MakesNone objects old q item error objects' new = Stays objects old objects' new

abbrev pub Makes : {H : Type 0} → Objects → (H → Option ℕ) → Names → Result H DiskError → Objects → (H → Option ℕ) → Type 0
Makes objects old q (Ok handle) objects' new = MakesItem objects old q (File []) objects' new × LeadsTo objects' (new handle) q
Makes objects old q (Err error) objects' new = MakesNone objects old q (File []) error objects' new

-- a folder or a link is made, which is not opened
abbrev pub MakesOther : {H : Type 0} → Objects → (H → Option ℕ) → Names → Item → Result (Unit {0}) DiskError → Objects → (H → Option ℕ) → Type 0
MakesOther objects old q item (Ok done) objects' new = MakesItem objects old q item objects' new
MakesOther objects old q item (Err error) objects' new = MakesNone objects old q item error objects' new

-- The name q is gone, at which no folder stood. The object stands at its other names.
pub record RemovesName {H : Type 0} (objects : Objects) (old : H → Option ℕ) (q : Names) (objects' : Objects) (new : H → Option ℕ) : Type 0 where
  pub other : IsOther (tree_by_paths objects q)
  pub becomes : Becomes (without_name objects.at q) objects.item old objects' new

-- a device that fails may have done nothing, or all
abbrev pub Removes : {H : Type 0} → Objects → (H → Option ℕ) → Names → Result (Unit {0}) DiskError → Objects → (H → Option ℕ) → Type 0
Removes objects old q (Ok done) objects' new = RemovesName objects old q objects' new
Removes objects old q (Err Absent) objects' new = (objects.at q ≡ None) × Stays objects old objects' new
Removes objects old q (Err IsFolder) objects' new = IsFolderItem (tree_by_paths objects q) × Stays objects old objects' new
Removes objects old q (Err (Failed errno)) objects' new = Stays objects old objects' new ⊎ RemovesName objects old q objects' new
Removes objects old q (Err error) objects' new = Stays objects old objects' new

-- the folder at q is gone, in which no name stood
pub record RemovesFolder {H : Type 0} (objects : Objects) (old : H → Option ℕ) (q : Names) (objects' : Objects) (new : H → Option ℕ) : Type 0 where
  pub folder : IsFolderItem (tree_by_paths objects q)
  pub bare : IsBare (tree_by_paths objects) q
  pub becomes : Becomes (without_name objects.at q) objects.item old objects' new

abbrev pub RemovesDir : {H : Type 0} → Objects → (H → Option ℕ) → Names → Result (Unit {0}) DiskError → Objects → (H → Option ℕ) → Type 0
RemovesDir objects old q (Ok done) objects' new = RemovesFolder objects old q objects' new
RemovesDir objects old q (Err Absent) objects' new = (objects.at q ≡ None) × Stays objects old objects' new
RemovesDir objects old q (Err NotFolder) objects' new = IsOther (tree_by_paths objects q) × Stays objects old objects' new
RemovesDir objects old q (Err NotEmpty) objects' new = IsFolderItem (tree_by_paths objects q) × HasNames (tree_by_paths objects) q × Stays objects old objects' new
RemovesDir objects old q (Err (Failed errno)) objects' new = Stays objects old objects' new ⊎ RemovesFolder objects old q objects' new
RemovesDir objects old q (Err error) objects' new = Stays objects old objects' new

-- both paths are names of one object
pub record AreSame (objects : Objects) (s t : Names) : Type 0 where
  pub object : ℕ
  pub source : objects.at s ≡ Some object
  pub target : objects.at t ≡ Some object

-- one path is the other one or leads to it
abbrev pub AreNested : Names → Names → Type 0
AreNested s t = (is_prefix s t ≡ true) ⊎ (is_prefix t s ≡ true)

-- What stood at s or below it stands at t or below it. The name t of what stood there is gone; that object stands at its other names.
pub record Moves {H : Type 0} (objects : Objects) (old : H → Option ℕ) (s t : Names) (objects' : Objects) (new : H → Option ℕ) : Type 0 where
  pub source : IsSome (objects.at s)
  pub two : AreSame objects s t → ⊥
  pub no_other_on_folder : IsOther (tree_by_paths objects s) → IsFolderItem (tree_by_paths objects t) → ⊥
  pub no_folder_on_other : IsFolderItem (tree_by_paths objects s) → IsOther (tree_by_paths objects t) → ⊥
  pub bare : IsBare (tree_by_paths objects) t
  pub becomes : Becomes (with_names_moved objects.at s t) objects.item old objects' new

-- A rename. Where both are names of one object it does nothing, and both stay.
abbrev pub RenamesDone : {H : Type 0} → Objects → (H → Option ℕ) → Names → Names → Objects → (H → Option ℕ) → Type 0
RenamesDone objects old s t objects' new = (AreSame objects s t × Stays objects old objects' new) ⊎ Moves objects old s t objects' new

-- a device that fails may have done nothing, or all
abbrev pub Renames : {H : Type 0} → Objects → (H → Option ℕ) → Names → Names → Result (Unit {0}) DiskError → Objects → (H → Option ℕ) → Type 0
Renames objects old s t (Ok done) objects' new = RenamesDone objects old s t objects' new
Renames objects old s t (Err Absent) objects' new = (objects.at s ≡ None) × Stays objects old objects' new
Renames objects old s t (Err IsFolder) objects' new = IsOther (tree_by_paths objects s) × IsFolderItem (tree_by_paths objects t) × Stays objects old objects' new
Renames objects old s t (Err NotFolder) objects' new = IsFolderItem (tree_by_paths objects s) × IsOther (tree_by_paths objects t) × Stays objects old objects' new
Renames objects old s t (Err NotEmpty) objects' new = IsFolderItem (tree_by_paths objects s) × IsFolderItem (tree_by_paths objects t) × HasNames (tree_by_paths objects) t × Stays objects old objects' new
Renames objects old s t (Err (Failed errno)) objects' new = Stays objects old objects' new ⊎ Moves objects old s t objects' new
Renames objects old s t (Err error) objects' new = Stays objects old objects' new

-- the object at s, which is no folder, stands at t as well, where nothing stood
pub record AddsName {H : Type 0} (objects : Objects) (old : H → Option ℕ) (s t : Names) (objects' : Objects) (new : H → Option ℕ) : Type 0 where
  pub object : ℕ
  pub source : objects.at s ≡ Some object
  pub other : IsOther (objects.item object)
  pub free : objects.at t ≡ None
  pub becomes : Becomes (with_name objects.at t object) objects.item old objects' new

-- a further name for what stands at s
abbrev pub Links : {H : Type 0} → Objects → (H → Option ℕ) → Names → Names → Result (Unit {0}) DiskError → Objects → (H → Option ℕ) → Type 0
Links objects old s t (Ok done) objects' new = AddsName objects old s t objects' new
Links objects old s t (Err Absent) objects' new = (objects.at s ≡ None) × Stays objects old objects' new
Links objects old s t (Err Exists) objects' new = IsSome (objects.at s) × IsSome (objects.at t) × Stays objects old objects' new
Links objects old s t (Err error) objects' new = Stays objects old objects' new
