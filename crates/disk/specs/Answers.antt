-- What an honest system answers, and what stands below its folder then. An error by which POSIX has the system say what stands there is
-- true; any other error is one of the device, and says nothing.
use Rattle.std.specs.Prelude.{ℕ, ◌≡◌, ◌<◌, ◌≤◌, ◌⊎◌, ◌||◌, Bool, false, List, [], ◌∷◌, ◌++◌, Some, None, IsSome, is_some, Result, Ok, Err, Vec, length, take, drop, if◌then◌else◌}
use Rattle.std.specs.declared.alloc.Global.{Global}
use Rattle.paths.specs.Prefixes.{Name, Names, is_name, is_prefix}
use Rattle.backing.specs.declared.entries.Item.{Item}
use Rattle.backing.specs.declared.entries.Item.TheVariants.{Folder, File, Link}
use Rattle.backing.specs.Files.{written, resized}
use Rattle.backing.specs.Tree.{Tree, IsFile, IsFolder as IsFolderItem, IsOther, HasNames, IsBare, is_path, with_item, without, moved, kind_of, size_of}
use Rattle.disk.specs.declared.stat.Stat.{Stat}
use Rattle.disk.specs.declared.error.DiskError.{DiskError}
use Rattle.disk.specs.declared.error.DiskError.TheVariants.{Absent, Exists, NotFolder, IsFolder, NotEmpty, Failed}

-- The look is one at what stands at q. An honest system shows all that stands below its folder.
pub record IsStat (at : Tree) (q : Names) (stat : Stat) : Type 0 where
  pub item : Item
  pub stands : at q ≡ Some item
  pub kind : stat.kind ≡ Some (kind_of item)
  pub size : stat.size ≡ size_of item

-- what is open is looked at
abbrev pub Inspects : Tree → Names → Result Stat DiskError → Type 0
Inspects at q (Ok stat) = IsStat at q stat
Inspects at q (Err error) = Unit {0}

-- what stands at q is looked at
abbrev pub Looks : Tree → Names → Result Stat DiskError → Type 0
Looks at q (Ok stat) = IsStat at q stat
Looks at q (Err Absent) = at q ≡ None
Looks at q (Err error) = Unit {0}

-- the folder at q is opened
abbrev pub OpensDir : {H : Type 0} → Tree → (H → Names → Type 0) → Names → Result H DiskError → Type 0
OpensDir at stands q (Ok handle) = stands handle q × (at q ≡ Some Folder)
OpensDir at stands q (Err Absent) = at q ≡ None
OpensDir at stands q (Err NotFolder) = IsOther (at q)
OpensDir at stands q (Err error) = Unit {0}

-- what is open stands at q, and is a file
abbrev pub StandsAsFile : {H : Type 0} → Tree → (H → Names → Type 0) → Names → H → Type 0
StandsAsFile at stands q handle = stands handle q × IsFile (at q)

-- the file at q is opened
abbrev pub OpensFile : {H : Type 0} → Tree → (H → Names → Type 0) → Names → Result H DiskError → Type 0
OpensFile at stands q (Ok handle) = stands handle q × IsFile (at q)
OpensFile at stands q (Err Absent) = at q ≡ None
OpensFile at stands q (Err IsFolder) = IsFolderItem (at q)
OpensFile at stands q (Err error) = Unit {0}

-- the text of the link at q
abbrev pub ReadsLink : Tree → Names → Result (Vec ℕ Global) DiskError → Type 0
ReadsLink at q (Ok text) = at q ≡ Some (Link text.items)
ReadsLink at q (Err Absent) = at q ≡ None
ReadsLink at q (Err error) = Unit {0}

-- so many bytes of the file at q, from the offset on; none at its end alone
pub record ReadsPart (at : Tree) (q : Names) (offset n : ℕ) (buffer : List ℕ) : Type 0 where
  pub bytes : List ℕ
  pub stands : at q ≡ Some (File bytes)
  pub read : take n buffer ≡ take n (drop offset bytes)
  pub held : n ≤ length (drop offset bytes)
  pub end : n ≡ 0 → length bytes ≤ offset

abbrev pub Reads : Tree → Names → ℕ → Result ℕ DiskError → List ℕ → Type 0
Reads at q offset (Ok n) buffer = ReadsPart at q offset n buffer
Reads at q offset (Err error) buffer = Unit {0}

-- whether the name is one of them
abbrev pub is_among : List Name → Name → Bool
is_among [] name = false
is_among (other ∷ names) name = is_name other name || is_among names name

-- no name comes twice
abbrev pub EachOnce : List Name → Type 0
EachOnce [] = Unit {0}
EachOnce (name ∷ names) = (is_among names name ≡ false) × EachOnce names

-- the names that stand in p, each once and in any order
pub record ListsNames (at : Tree) (p : Names) (names : List Name) : Type 0 where
  pub stands : (name : Name) → is_among names name ≡ is_some (at (p ++ name ∷ []))
  pub once : EachOnce names

-- What is open stands where it stood.
abbrev pub AllStay : {H : Type 0} → (H → Names → Type 0) → (H → Names → Type 0) → Type 0
AllStay {H} old new = (handle : H) (p : Names) → old handle p → new handle p

-- What is open stands where it stood, but at q.
abbrev pub AllStayBut : {H : Type 0} → Names → (H → Names → Type 0) → (H → Names → Type 0) → Type 0
AllStayBut {H} q old new = (handle : H) (p : Names) → is_path q p ≡ false → old handle p → new handle p

-- nothing is changed
pub record Stays {H : Type 0} (at : Tree) (old : H → Names → Type 0) (at' : Tree) (new : H → Names → Type 0) : Type 0 where
  pub tree : at' ≡ at
  pub stay : AllStay old new

-- the first n bytes, at least one, stand in the file at q
pub record WritesPart {H : Type 0} (at : Tree) (old : H → Names → Type 0) (q : Names) (offset : ℕ) (piece : List ℕ) (n : ℕ) (at' : Tree) (new : H → Names → Type 0) : Type 0 where
  pub some : 0 < n
  pub bytes : List ℕ
  pub stands : at q ≡ Some (File bytes)
  pub tree : at' ≡ with_item at q (File (written bytes offset (take n piece)))
  pub stay : AllStay old new

abbrev pub Writes : {H : Type 0} → Tree → (H → Names → Type 0) → Names → ℕ → List ℕ → Result ℕ DiskError → Tree → (H → Names → Type 0) → Type 0
Writes at old q offset piece (Ok n) at' new = WritesPart at old q offset piece n at' new
Writes at old q offset piece (Err error) at' new = Stays at old at' new

-- the file at q has that length
pub record CutsFile {H : Type 0} (at : Tree) (old : H → Names → Type 0) (q : Names) (size : ℕ) (at' : Tree) (new : H → Names → Type 0) : Type 0 where
  pub bytes : List ℕ
  pub stands : at q ≡ Some (File bytes)
  pub tree : at' ≡ with_item at q (File (resized size bytes))
  pub stay : AllStay old new

-- a device that fails may have done nothing, or all
abbrev pub Cuts : {H : Type 0} → Tree → (H → Names → Type 0) → Names → ℕ → Result (Unit {0}) DiskError → Tree → (H → Names → Type 0) → Type 0
Cuts at old q size (Ok done) at' new = CutsFile at old q size at' new
Cuts at old q size (Err (Failed errno)) at' new = Stays at old at' new ⊎ CutsFile at old q size at' new
Cuts at old q size (Err error) at' new = Stays at old at' new

-- the item stands at q, where nothing stood
pub record MakesItem {H : Type 0} (at : Tree) (old : H → Names → Type 0) (q : Names) (item : Item) (at' : Tree) (new : H → Names → Type 0) : Type 0 where
  pub free : at q ≡ None
  pub tree : at' ≡ with_item at q item
  pub stay : AllStay old new

-- why nothing is made, if not for the device, which may then have done nothing, or all
abbrev pub MakesNone : {H : Type 0} → Tree → (H → Names → Type 0) → Names → Item → DiskError → Tree → (H → Names → Type 0) → Type 0
MakesNone at old q item Exists at' new = IsSome (at q) × Stays at old at' new
MakesNone at old q item (Failed errno) at' new = Stays at old at' new ⊎ MakesItem at old q item at' new
MakesNone at old q item error at' new = Stays at old at' new

abbrev pub Makes : {H : Type 0} → Tree → (H → Names → Type 0) → Names → Result H DiskError → Tree → (H → Names → Type 0) → Type 0
Makes at old q (Ok handle) at' new = MakesItem at old q (File []) at' new × new handle q
Makes at old q (Err error) at' new = MakesNone at old q (File []) error at' new

abbrev pub MakesDir : {H : Type 0} → Tree → (H → Names → Type 0) → Names → Result (Unit {0}) DiskError → Tree → (H → Names → Type 0) → Type 0
MakesDir at old q (Ok done) at' new = MakesItem at old q Folder at' new
MakesDir at old q (Err error) at' new = MakesNone at old q Folder error at' new

abbrev pub MakesLink : {H : Type 0} → Tree → (H → Names → Type 0) → Names → List ℕ → Result (Unit {0}) DiskError → Tree → (H → Names → Type 0) → Type 0
MakesLink at old q text (Ok done) at' new = MakesItem at old q (Link text) at' new
MakesLink at old q text (Err error) at' new = MakesNone at old q (Link text) error at' new

-- what stood at q, which was no folder, is gone
pub record RemovesFile {H : Type 0} (at : Tree) (old : H → Names → Type 0) (q : Names) (at' : Tree) (new : H → Names → Type 0) : Type 0 where
  pub other : IsOther (at q)
  pub tree : at' ≡ without at q
  pub stay : AllStayBut q old new

-- a device that fails may have done nothing, or all
abbrev pub Removes : {H : Type 0} → Tree → (H → Names → Type 0) → Names → Result (Unit {0}) DiskError → Tree → (H → Names → Type 0) → Type 0
Removes at old q (Ok done) at' new = RemovesFile at old q at' new
Removes at old q (Err Absent) at' new = (at q ≡ None) × Stays at old at' new
Removes at old q (Err IsFolder) at' new = IsFolderItem (at q) × Stays at old at' new
Removes at old q (Err (Failed errno)) at' new = Stays at old at' new ⊎ RemovesFile at old q at' new
Removes at old q (Err error) at' new = Stays at old at' new

-- the folder at q is gone, in which no name stood
pub record RemovesFolder {H : Type 0} (at : Tree) (old : H → Names → Type 0) (q : Names) (at' : Tree) (new : H → Names → Type 0) : Type 0 where
  pub folder : IsFolderItem (at q)
  pub bare : IsBare at q
  pub tree : at' ≡ without at q
  pub stay : AllStayBut q old new

abbrev pub RemovesDir : {H : Type 0} → Tree → (H → Names → Type 0) → Names → Result (Unit {0}) DiskError → Tree → (H → Names → Type 0) → Type 0
RemovesDir at old q (Ok done) at' new = RemovesFolder at old q at' new
RemovesDir at old q (Err Absent) at' new = (at q ≡ None) × Stays at old at' new
RemovesDir at old q (Err NotFolder) at' new = IsOther (at q) × Stays at old at' new
RemovesDir at old q (Err NotEmpty) at' new = IsFolderItem (at q) × HasNames at q × Stays at old at' new
RemovesDir at old q (Err (Failed errno)) at' new = Stays at old at' new ⊎ RemovesFolder at old q at' new
RemovesDir at old q (Err error) at' new = Stays at old at' new

-- neither path is the other one or leads to it
pub record AreApart (s t : Names) : Type 0 where
  pub not_into : is_prefix s t ≡ false
  pub not_over : is_prefix t s ≡ false

-- where a path leads when s is renamed t
abbrev pub new_path : Names → Names → Names → Names
new_path s t p = if is_prefix s p then t ++ drop (length s) p else p

-- What stood at s or below it stands at t or below it, what is open moves with it, and what stood at t is gone.
pub record Moves {H : Type 0} (at : Tree) (old : H → Names → Type 0) (s t : Names) (at' : Tree) (new : H → Names → Type 0) : Type 0 where
  pub source : IsSome (at s)
  pub no_other_on_folder : IsOther (at s) → IsFolderItem (at t) → ⊥
  pub no_folder_on_other : IsFolderItem (at s) → IsOther (at t) → ⊥
  pub bare : IsBare at t
  pub tree : at' ≡ moved at s t
  pub stay : (handle : H) (p : Names) → is_prefix t p ≡ false → old handle p → new handle (new_path s t p)

-- A rename. A device that fails may have done nothing, or all.
abbrev pub Renames : {H : Type 0} → Tree → (H → Names → Type 0) → Names → Names → Result (Unit {0}) DiskError → Tree → (H → Names → Type 0) → Type 0
Renames at old s t (Ok done) at' new = Moves at old s t at' new
Renames at old s t (Err Absent) at' new = (at s ≡ None) × Stays at old at' new
Renames at old s t (Err IsFolder) at' new = IsOther (at s) × IsFolderItem (at t) × Stays at old at' new
Renames at old s t (Err NotFolder) at' new = IsFolderItem (at s) × IsOther (at t) × Stays at old at' new
Renames at old s t (Err NotEmpty) at' new = IsFolderItem (at s) × IsFolderItem (at t) × HasNames at t × Stays at old at' new
Renames at old s t (Err (Failed errno)) at' new = Stays at old at' new ⊎ Moves at old s t at' new
Renames at old s t (Err error) at' new = Stays at old at' new

-- the same tree, except that at t is what is at s
abbrev pub with_further : Tree → Names → Names → Tree
with_further at s t = λ q. if is_path t q then at s else at q

-- What stands at s, which is no folder, stands at t as well, where nothing stood.
pub record AddsName (at : Tree) (s t : Names) (at' : Tree) : Type 0 where
  pub other : IsOther (at s)
  pub free : at t ≡ None
  pub tree : at' ≡ with_further at s t

-- A further name for what stands at s. The tree shows it; but in a tree of paths nothing has two names, so what is open need stand nowhere
-- from then on.
abbrev pub Links : {H : Type 0} → Tree → (H → Names → Type 0) → Names → Names → Result (Unit {0}) DiskError → Tree → (H → Names → Type 0) → Type 0
Links at old s t (Ok done) at' new = AddsName at s t at'
Links at old s t (Err Absent) at' new = (at s ≡ None) × Stays at old at' new
Links at old s t (Err Exists) at' new = IsSome (at s) × IsSome (at t) × Stays at old at' new
Links at old s t (Err error) at' new = Stays at old at' new
