-- What a call answers and does on a tree: its tests in order, and its work if all of them pass.
use Rattle.std.specs.Prelude.{ℕ, ℤ, ◌≡◌, ◌≢◌, ◌<◌, ◌≤◌, ◌+◌, ◌⊎◌, Bool, true, false, if◌then◌else◌, List, [], ◌∷◌, ◌++◌, Option, Some, None, IsSome, length}
use Rattle.std.specs.Option.{option_map}
use Rattle.paths.specs.Prefixes.{Name, Names, is_name, is_prefix}
use Rattle.payload.specs.declared.attributes.Kind.{Kind}
use Rattle.backing.specs.declared.call.Child.{Child}
use Rattle.payload.specs.declared.attributes.Details.{Details}
use Rattle.backing.specs.declared.call.NewTime.{NewTime}
use Rattle.backing.specs.declared.call.Call.{Call}
use Rattle.backing.specs.declared.call.Call.TheVariants as calls
use Rattle.backing.specs.declared.call.Answer.{Answer}
use Rattle.backing.specs.declared.call.Answer.TheVariants.{Done, Stat, Names as NamesAre, Bytes, Wrote, Fault}
use Rattle.backing.specs.declared.entries.Item.{Item}
use Rattle.backing.specs.declared.entries.Item.TheVariants.{Folder, File, Link}
use Rattle.errno.specs.declared.TheConstants.{EPERM, ENOENT, EBUSY, EEXIST, ENOTDIR, EISDIR, EINVAL, EFBIG, ENOTEMPTY}
use Rattle.backing.specs.declared.call.TheConstants.{MAX_FILE_LEN}
use Rattle.backing.specs.Files.{resized, written, read}
use Rattle.backing.specs.Tree.{Tree, IsFile, IsFolder, IsLink, IsNeither, IsNoLink, IsOther, Resolves, Stops, HasNames, IsBare, is_path, with_item, without, moved, exchanged, kind_of, size_of}

-- a call of a directory, without the places of its paths and bytes in memory
pub data Asked : Type 0 where
  AskStat : (p : Names) → Asked
  AskList : (p : Names) → Asked
  AskMake : (p : Names) → (permissions : Option ℕ) → Asked
  AskMakeDir : (p : Names) → (permissions : Option ℕ) → Asked
  AskMakeLink : (p : Names) → (text : List ℕ) → Asked
  AskRemove : (p : Names) → Asked
  AskRemoveDir : (p : Names) → Asked
  AskRename : (s t : Names) → Asked
  AskRenameNew : (s t : Names) → Asked
  AskExchange : (s t : Names) → Asked
  AskLink : (s t : Names) → Asked
  AskRead : (p : Names) → (offset size : ℕ) → Asked
  AskReadLink : (p : Names) → Asked
  AskWrite : (p : Names) → (offset : ℕ) → (piece : List ℕ) → Asked
  AskSetLen : (p : Names) → (size : ℕ) → Asked
  AskSync : (p : Names) → Asked
  AskSetPermissions : (p : Names) → (permissions : ℕ) → Asked
  AskSetOwner : (p : Names) → (uid gid : Option ℕ) → Asked
  AskSetTimes : (p : Names) → (accessed modified : Option NewTime) → Asked

abbrev pub asked : Call → Asked
asked (calls.Stat p) = AskStat p.now
asked (calls.List p) = AskList p.now
asked (calls.Make p permissions) = AskMake p.now permissions
asked (calls.MakeDir p permissions) = AskMakeDir p.now permissions
asked (calls.MakeLink p text) = AskMakeLink p.now text.now
asked (calls.Remove p) = AskRemove p.now
asked (calls.RemoveDir p) = AskRemoveDir p.now
asked (calls.Rename s t) = AskRename s.now t.now
asked (calls.RenameNew s t) = AskRenameNew s.now t.now
asked (calls.Exchange s t) = AskExchange s.now t.now
asked (calls.Link s t) = AskLink s.now t.now
asked (calls.Read p offset size) = AskRead p.now offset size
asked (calls.ReadLink p) = AskReadLink p.now
asked (calls.Write p offset piece) = AskWrite p.now offset piece.now
asked (calls.SetLen p size) = AskSetLen p.now size
asked (calls.Sync p) = AskSync p.now
asked (calls.SetPermissions p permissions) = AskSetPermissions p.now permissions
asked (calls.SetOwner p uid gid) = AskSetOwner p.now uid gid
asked (calls.SetTimes p accessed modified) = AskSetTimes p.now accessed modified

-- What a call requires of the tree. Each test fails in one way only, except those of the path above and of a file.
pub data Test : Type 0 where
  BelowRoot : (p : Names) → Test  -- p is not the root, else EBUSY
  Reached : (p : Names) → Test  -- all names above the last one of p are folders, else ENOENT or ENOTDIR
  Present : (p : Names) → Test  -- something is at p, else ENOENT
  Free : (p : Names) → Test  -- nothing is at p, else EEXIST
  FileAt : (p : Names) → Test  -- a file is at p, else EISDIR for a folder, and EINVAL for anything else
  LinkAt : (p : Names) → Test  -- a link is at p, else EINVAL
  FolderAt : (p : Names) → Test  -- a folder is at p, else ENOTDIR
  NoFolder : (p : Names) → Test  -- something else than a folder is at p, else EISDIR
  Bare : (p : Names) → Test  -- nothing is in p, else ENOTEMPTY
  Differs : (s t : Names) → Test  -- t is not s, else EEXIST
  NotInto : (s t : Names) → Test  -- t is not below s, else EINVAL
  NotOver : (s t : Names) → Test  -- s is not below t, else ENOTEMPTY
  NoOtherOnFolder : (s t : Names) → Test  -- only a folder replaces a folder, else EISDIR
  NoFolderOnOther : (s t : Names) → Test  -- a folder replaces nothing but a folder, else ENOTDIR
  Fits : (limit : Option ℕ) (end : ℕ) → Test  -- a file may end there, else EFBIG
  OneName : Test  -- what stands in a tree of paths has one name: this never passes, and gives EPERM, as a file system without hard links does (link(2))

-- How long a file may be, in a tree in memory. A directory that has no limit of its own has none here, and its device fails.
abbrev pub memory_limit : Option ℕ
memory_limit = Some MAX_FILE_LEN

-- a file may end there
abbrev pub IsWithin : Option ℕ → ℕ → Type 0
IsWithin None end = Unit {0}
IsWithin (Some limit) end = end ≤ limit

-- no file may
abbrev pub IsBeyond : Option ℕ → ℕ → Type 0
IsBeyond None end = ⊥
IsBeyond (Some limit) end = limit < end

abbrev pub Passes : Tree → Test → Type 0
Passes at (BelowRoot p) = p ≢ []
Passes at (Reached p) = Resolves at p
Passes at (Present p) = IsSome (at p)
Passes at (Free p) = at p ≡ None
Passes at (FileAt p) = IsFile (at p)
Passes at (LinkAt p) = IsLink (at p)
Passes at (FolderAt p) = IsFolder (at p)
Passes at (NoFolder p) = IsOther (at p)
Passes at (Bare p) = IsBare at p
Passes at (Differs s t) = is_path s t ≡ false
Passes at (NotInto s t) = is_prefix s t ≡ false
Passes at (NotOver s t) = is_prefix t s ≡ false
Passes at (NoOtherOnFolder s t) = IsOther (at s) → IsFolder (at t) → ⊥
Passes at (NoFolderOnOther s t) = IsFolder (at s) → IsOther (at t) → ⊥
Passes at (Fits limit end) = IsWithin limit end
Passes at OneName = ⊥

abbrev pub Fails : Tree → Test → ℤ → Type 0
Fails at (BelowRoot p) errno = (p ≡ []) × (errno ≡ EBUSY)
Fails at (Reached p) errno = Stops at p errno
Fails at (Present p) errno = (at p ≡ None) × (errno ≡ ENOENT)
Fails at (Free p) errno = IsSome (at p) × (errno ≡ EEXIST)
Fails at (FileAt p) errno = (IsFolder (at p) × (errno ≡ EISDIR)) ⊎ (IsNeither (at p) × (errno ≡ EINVAL))
Fails at (LinkAt p) errno = IsNoLink (at p) × (errno ≡ EINVAL)
Fails at (FolderAt p) errno = IsOther (at p) × (errno ≡ ENOTDIR)
Fails at (NoFolder p) errno = IsFolder (at p) × (errno ≡ EISDIR)
Fails at (Bare p) errno = HasNames at p × (errno ≡ ENOTEMPTY)
Fails at (Differs s t) errno = (is_path s t ≡ true) × (errno ≡ EEXIST)
Fails at (NotInto s t) errno = (is_prefix s t ≡ true) × (errno ≡ EINVAL)
Fails at (NotOver s t) errno = (is_prefix t s ≡ true) × (errno ≡ ENOTEMPTY)
Fails at (NoOtherOnFolder s t) errno = IsOther (at s) × IsFolder (at t) × (errno ≡ EISDIR)
Fails at (NoFolderOnOther s t) errno = IsFolder (at s) × IsOther (at t) × (errno ≡ ENOTDIR)
Fails at (Fits limit end) errno = IsBeyond limit end × (errno ≡ EFBIG)
Fails at OneName errno = errno ≡ EPERM

-- all of the tests pass
abbrev pub PassesAll : Tree → List Test → Type 0
PassesAll at [] = Unit {0}
PassesAll at (test ∷ tests) = Passes at test × PassesAll at tests

-- the first test that fails gives the error
abbrev pub Refuses : Tree → List Test → ℤ → Type 0
Refuses at [] errno = ⊥
Refuses at (test ∷ tests) errno = Fails at test errno ⊎ (Passes at test × Refuses at tests errno)

-- the tests, or none if the first argument is true
abbrev pub unless : Bool → List Test → List Test
unless true tests = []
unless false tests = tests

-- A write of no bytes always fits.
abbrev pub end_of : ℕ → List ℕ → ℕ
end_of offset [] = 0
end_of offset (byte ∷ piece) = offset + length (byte ∷ piece)

-- the tests of a call, in order
abbrev pub tests_of : Option ℕ → Asked → List Test
tests_of limit (AskStat p) = Reached p ∷ Present p ∷ []
tests_of limit (AskList p) = Reached p ∷ Present p ∷ FolderAt p ∷ []
tests_of limit (AskMake p permissions) = Reached p ∷ Free p ∷ []
tests_of limit (AskMakeDir p permissions) = Reached p ∷ Free p ∷ []
tests_of limit (AskMakeLink p text) = Reached p ∷ Free p ∷ []
tests_of limit (AskRemove p) = Reached p ∷ Present p ∷ NoFolder p ∷ []
tests_of limit (AskRemoveDir p) = BelowRoot p ∷ Reached p ∷ Present p ∷ FolderAt p ∷ Bare p ∷ []
tests_of limit (AskRename s t) = BelowRoot s ∷ BelowRoot t ∷ Reached s ∷ Present s ∷ unless (is_path s t) (NotInto s t ∷ NotOver s t ∷ Reached t ∷ NoOtherOnFolder s t ∷ NoFolderOnOther s t ∷ Bare t ∷ [])
tests_of limit (AskRenameNew s t) = BelowRoot s ∷ BelowRoot t ∷ Reached s ∷ Present s ∷ Differs s t ∷ NotInto s t ∷ NotOver s t ∷ Reached t ∷ Free t ∷ []
tests_of limit (AskExchange s t) = BelowRoot s ∷ BelowRoot t ∷ Reached s ∷ Present s ∷ unless (is_path s t) (NotInto s t ∷ NotInto t s ∷ Reached t ∷ Present t ∷ [])
tests_of limit (AskLink s t) = BelowRoot s ∷ BelowRoot t ∷ Reached s ∷ Present s ∷ Reached t ∷ Free t ∷ OneName ∷ []
tests_of limit (AskRead p offset size) = Reached p ∷ Present p ∷ FileAt p ∷ []
tests_of limit (AskReadLink p) = Reached p ∷ Present p ∷ LinkAt p ∷ []
tests_of limit (AskWrite p offset piece) = Reached p ∷ Present p ∷ FileAt p ∷ Fits limit (end_of offset piece) ∷ []
tests_of limit (AskSetLen p size) = Reached p ∷ Present p ∷ FileAt p ∷ Fits limit size ∷ []
tests_of limit (AskSync p) = Reached p ∷ Present p ∷ []
tests_of limit (AskSetPermissions p permissions) = Reached p ∷ Present p ∷ []
tests_of limit (AskSetOwner p uid gid) = Reached p ∷ Present p ∷ []
tests_of limit (AskSetTimes p accessed modified) = Reached p ∷ Present p ∷ []

-- the kind that a name has in a listing
abbrev pub kind_in : List Child → Name → Option Kind
kind_in [] name = None
kind_in (child ∷ children) name = if is_name child.name name then Some child.kind else kind_in children name

-- no name comes twice
abbrev pub EachOnce : List Child → Type 0
EachOnce [] = Unit {0}
EachOnce (child ∷ children) = (kind_in children child.name ≡ None) × EachOnce children

-- the names in p, with their kinds, each once and in any order
pub record Lists (at : Tree) (p : Names) (children : List Child) : Type 0 where
  pub stands : (name : Name) → kind_in children name ≡ option_map kind_of (at (p ++ name ∷ []))
  pub once : EachOnce children

-- The answer of a call whose tests pass, and the tree afterwards. A tree has only kinds and bytes and no details, so a
-- STAT may report any details, and setting them does not change the tree.
abbrev pub Does : Tree → Asked → Answer → Tree → Type 0
Does old (AskStat p) answer new = ((item : Item) × (old p ≡ Some item) × ((details : Details) × (answer ≡ Stat (kind_of item) (size_of item) details))) × (new ≡ old)
Does old (AskList p) answer new = ((children : List Child) × Lists old p children × (answer ≡ NamesAre children)) × (new ≡ old)
Does old (AskMake p permissions) answer new = (answer ≡ Done) × (new ≡ with_item old p (File []))
Does old (AskMakeDir p permissions) answer new = (answer ≡ Done) × (new ≡ with_item old p Folder)
Does old (AskMakeLink p text) answer new = (answer ≡ Done) × (new ≡ with_item old p (Link text))
Does old (AskRemove p) answer new = (answer ≡ Done) × (new ≡ without old p)
Does old (AskRemoveDir p) answer new = (answer ≡ Done) × (new ≡ without old p)
Does old (AskRename s t) answer new = (answer ≡ Done) × (new ≡ (if is_path s t then old else moved old s t))
Does old (AskRenameNew s t) answer new = (answer ≡ Done) × (new ≡ moved old s t)
Does old (AskExchange s t) answer new = (answer ≡ Done) × (new ≡ (if is_path s t then old else exchanged old s t))
Does old (AskLink s t) answer new = ⊥
Does old (AskRead p offset size) answer new = ((bytes : List ℕ) × (old p ≡ Some (File bytes)) × (answer ≡ Bytes (read bytes offset size))) × (new ≡ old)
Does old (AskReadLink p) answer new = ((text : List ℕ) × (old p ≡ Some (Link text)) × (answer ≡ Bytes text)) × (new ≡ old)
Does old (AskWrite p offset []) answer new = (answer ≡ Wrote 0) × (new ≡ old)
Does old (AskWrite p offset (byte ∷ piece)) answer new = (answer ≡ Wrote (length (byte ∷ piece))) × ((bytes : List ℕ) × (old p ≡ Some (File bytes)) × (new ≡ with_item old p (File (written bytes offset (byte ∷ piece)))))
Does old (AskSetLen p size) answer new = (answer ≡ Done) × ((bytes : List ℕ) × (old p ≡ Some (File bytes)) × (new ≡ with_item old p (File (resized size bytes))))
Does old (AskSync p) answer new = (answer ≡ Done) × (new ≡ old)
Does old (AskSetPermissions p permissions) answer new = (answer ≡ Done) × (new ≡ old)
Does old (AskSetOwner p uid gid) answer new = (answer ≡ Done) × (new ≡ old)
Does old (AskSetTimes p accessed modified) answer new = (answer ≡ Done) × (new ≡ old)

-- The tree's own answer and effect: the call's work if all of its tests pass, otherwise the error of the first test
-- that fails, without any change.
abbrev pub Works : Option ℕ → Tree → Asked → Answer → Tree → Type 0
Works limit old call answer new = (PassesAll old (tests_of limit call) × Does old call answer new) ⊎ ((errno : ℤ) × Refuses old (tests_of limit call) errno × (answer ≡ Fault errno) × (new ≡ old))

-- the calls for which a tree in memory allocates
abbrev pub TakesMemory : Asked → Type 0
TakesMemory (AskStat p) = ⊥
TakesMemory (AskList p) = Unit {0}
TakesMemory (AskMake p permissions) = Unit {0}
TakesMemory (AskMakeDir p permissions) = Unit {0}
TakesMemory (AskMakeLink p text) = Unit {0}
TakesMemory (AskRemove p) = ⊥
TakesMemory (AskRemoveDir p) = ⊥
TakesMemory (AskRename s t) = Unit {0}
TakesMemory (AskRenameNew s t) = Unit {0}
TakesMemory (AskExchange s t) = Unit {0}
TakesMemory (AskLink s t) = ⊥
TakesMemory (AskRead p offset size) = Unit {0}
TakesMemory (AskReadLink p) = Unit {0}
TakesMemory (AskWrite p offset piece) = Unit {0}
TakesMemory (AskSetLen p size) = Unit {0}
TakesMemory (AskSync p) = ⊥
TakesMemory (AskSetPermissions p permissions) = ⊥
TakesMemory (AskSetOwner p uid gid) = ⊥
TakesMemory (AskSetTimes p accessed modified) = ⊥

-- Only lack of memory prevents the tree from doing the call's work.
abbrev pub Starves : Option ℕ → Tree → Asked → Type 0
Starves limit old call = PassesAll old (tests_of limit call) × TakesMemory call
