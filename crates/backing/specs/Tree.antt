-- A tree says what is at each path. The empty path is the root's.
use Rattle.std.specs.Prelude.{ℕ, ℤ, ◌≡◌, ◌<◌, ◌&&◌, Bool, true, false, if◌then◌else◌, [], ◌∷◌, ◌++◌, Option, Some, None, IsSome, length, take, drop}
use Rattle.paths.specs.Prefixes.{Name, Names, is_name, is_prefix}
use Rattle.payload.specs.declared.attributes.Kind.{Kind}
use Rattle.payload.specs.declared.attributes.Kind.TheVariants as kinds
use Rattle.backing.specs.declared.entries.Item.{Item}
use Rattle.backing.specs.declared.entries.Item.TheVariants.{Folder, File, Link, Special}
use Rattle.errno.specs.declared.TheConstants.{ENOENT, ENOTDIR}

abbrev pub Tree : Type 0
Tree = Names → Option Item

-- both paths have the same names
abbrev pub is_path : Names → Names → Bool
is_path [] [] = true
is_path (x ∷ p) (y ∷ q) = is_name x y && is_path p q
is_path [] (y ∷ q) = false
is_path (x ∷ p) [] = false

-- The root is a folder, and the parent of each other path is a folder.
pub record IsTree (at : Tree) : Type 0 where
  pub root : at [] ≡ Some Folder
  pub parents : (up : Names) (name : Name) → IsSome (at (up ++ name ∷ [])) → at up ≡ Some Folder

-- the same tree, except that the item is at p
abbrev pub with_item : Tree → Names → Item → Tree
with_item at p item = λ q. if is_path p q then Some item else at q

-- the same tree, except that nothing is at p
abbrev pub without : Tree → Names → Tree
without at p = λ q. if is_path p q then None else at q

-- what was at s or below it is at t or below it, and no longer where it was
abbrev pub moved : Tree → Names → Names → Tree
moved at s t = λ q. if is_prefix t q then at (s ++ drop (length t) q) else (if is_prefix s q then None else at q)

-- what was at s or below it is at t or below it, and the other way round
abbrev pub exchanged : Tree → Names → Names → Tree
exchanged at s t = λ q. if is_prefix s q then at (t ++ drop (length s) q) else (if is_prefix t q then at (s ++ drop (length t) q) else at q)

abbrev pub kind_of : Item → Kind
kind_of Folder = kinds.Folder
kind_of (File bytes) = kinds.File
kind_of (Link text) = kinds.Link
kind_of (Special special) = kinds.Special special

-- in bytes: of a link its text, and 0 for what has neither
abbrev pub size_of : Item → ℕ
size_of Folder = 0
size_of (File bytes) = length bytes
size_of (Link text) = length text
size_of (Special special) = 0

abbrev pub IsFile : Option Item → Type 0
IsFile (Some (File bytes)) = Unit {0}
IsFile other = ⊥

abbrev pub IsFolder : Option Item → Type 0
IsFolder (Some Folder) = Unit {0}
IsFolder other = ⊥

abbrev pub IsLink : Option Item → Type 0
IsLink (Some (Link text)) = Unit {0}
IsLink other = ⊥

-- something is there that is no folder
abbrev pub IsOther : Option Item → Type 0
IsOther None = ⊥
IsOther (Some Folder) = ⊥
IsOther (Some item) = Unit {0}

-- something is there that is neither a folder nor a file
abbrev pub IsNeither : Option Item → Type 0
IsNeither None = ⊥
IsNeither (Some Folder) = ⊥
IsNeither (Some (File bytes)) = ⊥
IsNeither (Some item) = Unit {0}

-- something is there that is no link
abbrev pub IsNoLink : Option Item → Type 0
IsNoLink None = ⊥
IsNoLink (Some (Link text)) = ⊥
IsNoLink (Some item) = Unit {0}

-- each path above p is a folder
pub record Resolves (at : Tree) (p : Names) : Type 0 where
  pub down : (k : ℕ) → k < length p → IsFolder (at (take k p))

-- why nothing is below this
abbrev pub Blocks : Option Item → ℤ → Type 0
Blocks None errno = errno ≡ ENOENT
Blocks (Some Folder) errno = ⊥
Blocks (Some item) errno = errno ≡ ENOTDIR

-- the first path above p, from the root on, that is not a folder
pub record Stops (at : Tree) (p : Names) (errno : ℤ) : Type 0 where
  pub depth : ℕ
  pub above_path : depth < length p
  pub down : (k : ℕ) → k < depth → IsFolder (at (take k p))
  pub why : Blocks (at (take depth p)) errno

-- the folder p has some name
pub record HasNames (at : Tree) (p : Names) : Type 0 where
  pub name : Name
  pub stands : IsSome (at (p ++ name ∷ []))

-- it has none
pub record IsBare (at : Tree) (p : Names) : Type 0 where
  pub none : (name : Name) → at (p ++ name ∷ []) ≡ None
