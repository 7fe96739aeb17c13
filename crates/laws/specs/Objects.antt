-- What stands below a folder, by objects. An object is a file, a folder, a link or what is special; a file with hard links stands at
-- several paths.
use Rattle.std.specs.Prelude.{ℕ, ◌≡◌, ◌==◌, ◌++◌, Bool, false, Option, Some, None, IsSome, if◌then◌else◌, length, drop}
use Rattle.paths.specs.Prefixes.{Names, is_prefix}
use Rattle.backing.specs.declared.entries.Item.{Item}
use Rattle.backing.specs.declared.entries.Item.TheVariants.{Folder}
use Rattle.backing.specs.Tree.{Tree, is_path}

-- which object has each path as a name, if one has
abbrev pub Named : Type 0
Named = Names → Option ℕ

-- Which object stands at each path, and what each object is. An object that stands nowhere is gone, and nothing is said of it.
pub record Objects : Type 0 where
  pub at : Named
  pub item : ℕ → Option Item

-- what that object is
abbrev pub what_is : (ℕ → Option Item) → Option ℕ → Option Item
what_is item None = None
what_is item (Some object) = item object

-- the tree by paths: at each path is what the object is that stands there
abbrev pub tree_by_paths : Objects → Tree
tree_by_paths objects p = what_is objects.item (objects.at p)

-- the object stands somewhere
pub record HasName (at : Named) (object : ℕ) : Type 0 where
  pub path : Names
  pub stands : at path ≡ Some object

-- Each object stands at one path at most.
pub record HasOneName (at : Named) : Type 0 where
  pub once : (p q : Names) (object : ℕ) → at p ≡ Some object → at q ≡ Some object → p ≡ q

-- A folder has no hard links.
abbrev pub FoldersOnce : Objects → Type 0
FoldersOnce objects = (p q : Names) (object : ℕ) → objects.item object ≡ Some Folder → objects.at p ≡ Some object → objects.at q ≡ Some object → p ≡ q

-- What stands at a path is something.
abbrev pub AllAreItems : Objects → Type 0
AllAreItems objects = (object : ℕ) → HasName objects.at object → IsSome (objects.item object)

-- What is open leads to an object that stands somewhere.
abbrev pub AllStand : {H : Type 0} → Objects → (H → Option ℕ) → Type 0
AllStand {H} objects opens = (handle : H) (object : ℕ) → opens handle ≡ Some object → HasName objects.at object

-- the object at p, of which that holds
pub record ObjectAt (objects : Objects) (p : Names) (Holds : ℕ → Type 0) : Type 0 where
  pub object : ℕ
  pub stands : objects.at p ≡ Some object
  pub holds : Holds object

-- what is open leads to the object at p
abbrev pub LeadsTo : Objects → Option ℕ → Names → Type 0
LeadsTo objects opened p = ObjectAt objects p (λ object. opened ≡ Some object)

-- at which paths an open file or folder stands
abbrev pub stands_in : {H : Type 0} → Objects → (H → Option ℕ) → H → Names → Type 0
stands_in objects opens handle p = LeadsTo objects (opens handle) p

-- The same until a LINK is granted. After that a path may be one of several, and of what stands at it nothing is claimed.
abbrev pub stands_unlinked : {H : Type 0} → Bool → Objects → (H → Option ℕ) → H → Names → Type 0
stands_unlinked linked objects opens handle p = (linked ≡ false) × LeadsTo objects (opens handle) p

-- the same paths, except that the object stands at p
abbrev pub with_name : Named → Names → ℕ → Named
with_name at p object = λ q. if is_path p q then Some object else at q

-- the same paths, except that nothing stands at p
abbrev pub without_name : Named → Names → Named
without_name at p = λ q. if is_path p q then None else at q

-- what stood at s or below it stands at t or below it, and no longer where it stood
abbrev pub with_names_moved : Named → Names → Names → Named
with_names_moved at s t = λ q. if is_prefix t q then at (s ++ drop (length t) q) else (if is_prefix s q then None else at q)

-- the same items, except that this is what the object is
abbrev pub with_object : (ℕ → Option Item) → ℕ → Item → ℕ → Option Item
with_object items object item = λ other. if object == other then Some item else items other
