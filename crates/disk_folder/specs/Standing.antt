-- Open files and folders, kept or held for a call, and where they stand.
use Rattle.std.specs.Prelude.{ℕ, ◌≡◌, ◌⊎◌, List, ◌++◌, ◌∷◌, [], false, Option, Some, None}
use Rattle.std.specs.Option.{option_map}
use Rattle.paths.specs.Prefixes.{Names, is_prefix}
use Rattle.payload.specs.declared.attributes.Kind.{Kind}
use Rattle.payload.specs.declared.attributes.Kind.TheVariants as kinds
use Rattle.backing.specs.declared.entries.Item.TheVariants.{Folder, File}
use Rattle.backing.specs.Tree.{Tree, kind_of}
use Rattle.path_cache.specs.declared.places.Place.{Place}
use Rattle.path_cache.specs.Cache.{kept_at, value_at, without_all, IsAt}
use Rattle.disk_folder.specs.declared.opened.Open.{Open}
use Rattle.disk.specs.Names.{IsLawfulName}
use Rattle.disk_folder.specs.declared.opened.Held.{Held}
use Rattle.disk_folder.specs.declared.opened.Entry.{Entry}
use Rattle.disk_folder.specs.declared.opened.KeptEntry.{KeptEntry}
use Rattle.disk_folder.specs.declared.opened.Held.TheVariants.{Kept, Own}
use Rattle.disk_folder.specs.declared.open_cache.OpenCache.{OpenCache}

-- what is open there
abbrev pub open_of : {H : Type 0} → OpenCache H → Held H → Option (Open H)
open_of c (Kept place) = value_at c.cache place
open_of c (Own opened) = Some opened

-- of which kind it is
abbrev pub kind_at : {H : Type 0} → OpenCache H → Place → Option Kind
kind_at {H} c place = option_map (λ (opened : Open H). opened.kind) (value_at c.cache place)

-- nothing is kept at that path or below it
pub record NoneKept {H : Type 0} (c : OpenCache H) (p : Names) : Type 0 where
  pub none : (more : Names) → kept_at c.cache (p ++ more) ≡ None

-- what is held is kept at that path, or nothing is kept there
abbrev pub IsHeldAt : {H : Type 0} → OpenCache H → Held H → Names → Type 0
IsHeldAt c (Kept place) p = IsAt c.cache place p
IsHeldAt c (Own opened) p = NoneKept c p

-- there is a path at which it is held so
pub record IsHeld {H : Type 0} (c : OpenCache H) (held : Held H) : Type 0 where
  pub path : Names
  pub at : IsHeldAt c held path

-- the folder is open, and can hold the name
pub record IsEntry {H : Type 0} (c : OpenCache H) (entry : Entry H) : Type 0 where
  pub held : IsHeld c entry.folder
  pub lawful : IsLawfulName entry.name.now

-- what was kept is kept, and nothing else is
pub record KeepsAll {H : Type 0} (old new : OpenCache H) : Type 0 where
  pub kept : (p : Names) → kept_at new.cache p ≡ kept_at old.cache p
  pub places : (place : Place) (p : Names) → IsAt old.cache place p → IsAt new.cache place p

-- what is kept at the path or below it may be closed, and all else is kept
pub record Settles {H : Type 0} (old : OpenCache H) (q : Names) (new : OpenCache H) : Type 0 where
  pub kept : (p : Names) → (kept_at new.cache p ≡ kept_at old.cache p) ⊎ (kept_at new.cache p ≡ None)
  pub places : (place : Place) (p : Names) → is_prefix q p ≡ false → IsAt old.cache place p → IsAt new.cache place p

-- nothing is kept any more at the path or below it
pub record Forgets {H : Type 0} (old : OpenCache H) (q : Names) (new : OpenCache H) : Type 0 where
  pub kept : (p : Names) → kept_at new.cache p ≡ without_all (kept_at old.cache) q p
  pub places : (place : Place) (p : Names) → is_prefix q p ≡ false → IsAt old.cache place p → IsAt new.cache place p

-- What is opened is kept at that path, or it is not, and then all of it may be closed that is kept there or below.
pub record Keeps {H : Type 0} (old : OpenCache H) (q : Names) (opened : Open H) (new : OpenCache H) : Type 0 where
  pub kept : (p : Names) → (kept_at new.cache p ≡ kept_at old.cache p) ⊎ ((kept_at new.cache p ≡ None) ⊎ ((q ≡ p) × (kept_at new.cache p ≡ Some opened)))

-- if it is held for the call alone, it is that one
abbrev pub IsOwn : {H : Type 0} → Open H → Held H → Type 0
IsOwn opened (Kept place) = Unit {0}
IsOwn opened (Own own) = own ≡ opened

-- what is open stands at that path, and is of its kind
pub record IsStanding {H : Type 0} (at : Tree) (stands : H → Names → Type 0) (p : Names) (opened : Open H) : Type 0 where
  pub handle : stands opened.handle p
  pub kind : option_map kind_of (at p) ≡ Some opened.kind

-- THE INVARIANT: all that is kept stands where it is kept
pub record AllStand {H : Type 0} (at : Tree) (stands : H → Names → Type 0) (c : OpenCache H) : Type 0 where
  pub each : (p : Names) (opened : Open H) → kept_at c.cache p ≡ Some opened → IsStanding at stands p opened

-- what is held for the call alone stands at that path
abbrev pub OwnStands : {H : Type 0} → Tree → (H → Names → Type 0) → Held H → Names → Type 0
OwnStands at stands (Kept place) p = Unit {0}
OwnStands at stands (Own opened) p = IsStanding at stands p opened

-- an open folder at that path, and all that is kept stands
pub record IsFolderAt {H : Type 0} (at : Tree) (stands : H → Names → Type 0) (c : OpenCache H) (held : Held H) (p : Names) : Type 0 where
  pub all : AllStand at stands c
  pub held_at : IsHeldAt c held p
  pub own : OwnStands at stands held p
  pub folder : at p ≡ Some Folder

-- what was opened at that path is a folder, and stands there
pub record IsOpenFolder {H : Type 0} (at : Tree) (stands : H → Names → Type 0) (q : Names) (opened : Open H) : Type 0 where
  pub standing : IsStanding at stands q opened
  pub folder : at q ≡ Some Folder

-- the path is that of the open folder, and then the name, which a folder can hold
pub record IsEntryOf {H : Type 0} (c : OpenCache H) (entry : Entry H) (path : Names) : Type 0 where
  pub up : Names
  pub whole : path ≡ up ++ entry.name.now ∷ []
  pub held : IsHeldAt c entry.folder up
  pub lawful : IsLawfulName entry.name.now

-- the path is that of a folder that is open and stands there, and then the name
pub record StandsIn {H : Type 0} (at : Tree) (stands : H → Names → Type 0) (c : OpenCache H) (entry : Entry H) (path : Names) : Type 0 where
  pub up : Names
  pub whole : path ≡ up ++ entry.name.now ∷ []
  pub folder : IsFolderAt at stands c entry.folder up

-- the path is that of the root or of a folder that is kept, and then the name, which a folder can hold
pub record IsKeptEntry {H : Type 0} (c : OpenCache H) (entry : KeptEntry) (path : Names) : Type 0 where
  pub up : Names
  pub whole : path ≡ up ++ entry.name.now ∷ []
  pub at : IsAt c.cache entry.folder up
  pub kind : (up ≡ []) ⊎ (kind_at c entry.folder ≡ Some kinds.Folder)
  pub lawful : IsLawfulName entry.name.now

-- what was opened at that path is a file, and stands there
pub record IsOpenFile {H : Type 0} (at : Tree) (stands : H → Names → Type 0) (q : Names) (opened : Open H) : Type 0 where
  pub standing : IsStanding at stands q opened
  pub bytes : List ℕ
  pub file : at q ≡ Some (File bytes)

-- an open file at that path, and all that is kept stands
pub record IsFileAt {H : Type 0} (at : Tree) (stands : H → Names → Type 0) (c : OpenCache H) (held : Held H) (p : Names) : Type 0 where
  pub all : AllStand at stands c
  pub held_at : IsHeldAt c held p
  pub own : OwnStands at stands held p
  pub bytes : List ℕ
  pub file : at p ≡ Some (File bytes)
