-- What an open folder shows.
use Rattle.std.specs.Prelude.{ℕ, ◌≡◌, Bool, true, false, not, ◌&&◌, is_none, if◌then◌else◌, List, [], ◌∷◌, None, Result, Ok, Err, codes}
use Rattle.std.specs.List.{AllPass, list_all}
use Rattle.std.specs.List.Sorted.{IsPermutation, IsStrictlySortedBy}
use Rattle.paths.specs.Prefixes.{Name}
use Rattle.payload.specs.declared.attributes.Kind.TheVariants as kinds
use Rattle.backing.specs.declared.call.Child.{Child}
use Rattle.backing.specs.Calls.{kind_in}
use Rattle.handles.specs.Names.{is_lawful, by_name}
use Rattle.paths.specs.Hidden.{is_reserved}
use Rattle.handles.specs.declared.listing.ListingFault.{ListingFault}
use Rattle.handles.specs.declared.listing.ListingFault.TheVariants.{Lawless, Memory}

-- no name comes twice
abbrev pub is_each_once : List Child → Bool
is_each_once [] = true
is_each_once (child ∷ children) = is_none (kind_in children child.name) && is_each_once children

-- what a directory may list: lawful names, each once
abbrev pub are_lawful : List Child → Bool
are_lawful children = list_all (λ child. is_lawful child.name) children && is_each_once children

-- these children, which are lawful, sorted by bytes
pub record IsInOrder (children names : List Child) : Type 0 where
  pub lawful : are_lawful children ≡ true
  pub moved : IsPermutation children names
  pub rising : IsStrictlySortedBy by_name names

abbrev pub folder_at : Name → Child
folder_at name = record { name = name; kind = kinds.Folder }

-- `.` and `..`, then lawful names sorted by bytes, none of them reserved
pub record IsListing (entries : List Child) : Type 0 where
  pub names : List Child
  pub dots : entries ≡ folder_at (codes ".") ∷ folder_at (codes "..") ∷ names
  pub lawful : AllPass (λ child. is_lawful child.name) names
  pub shown : AllPass (λ child. not (is_reserved child.name)) names
  pub rising : IsStrictlySortedBy by_name names

-- the listing of these children shows each that is not reserved, with its kind, and nothing else
pub record Shows (children entries : List Child) : Type 0 where
  pub listing : IsListing entries
  pub same : (name : Name) → kind_in listing.names name ≡ (if is_reserved name then None else kind_in children name)

-- an open folder: its node, its handle, and what it shows
pub record OpenFolder : Type 0 where
  pub number : ℕ
  pub fh : ℕ
  pub entries : List Child

-- the listing of a node's children, which has no handle yet; a fault exactly if they are not lawful
abbrev pub IsMade : ℕ → List Child → Result OpenFolder ListingFault → Type 0
IsMade number children (Ok folder) = (are_lawful children ≡ true) × (folder.number ≡ number) × (folder.fh ≡ 0) × Shows children folder.entries
IsMade number children (Err Lawless) = are_lawful children ≡ false
IsMade number children (Err Memory) = are_lawful children ≡ true

-- what is lent has the handle that was asked for, and is a listing
pub record IsLent (fh : ℕ) (folder : OpenFolder) : Type 0 where
  pub bears : folder.fh ≡ fh
  pub listing : IsListing folder.entries
