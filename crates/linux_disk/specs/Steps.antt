-- What calls of several steps came to.
use Rattle.std.specs.Prelude.{◌≡◌, ◌≤◌, ◌⊎◌, ◌^◌, ◌++◌, ℕ, ℤ, pos, List, Option, None, Some, bit_and, bit_or}
use Rattle.payload.specs.declared.attributes.Kind.{Kind}
use Rattle.payload.specs.declared.attributes.Kind.TheVariants.{Link, Special}
use Rattle.disk.specs.declared.stat.Access.{Access}
use Rattle.disk.specs.declared.stat.Change.{Change}
use Rattle.disk.specs.declared.stat.Change.TheVariants.{Permissions, Owner, Times}
use Rattle.disk.specs.declared.stat.Stat.{Stat}
use Rattle.disk.specs.declared.error.DiskError.{DiskError}
use Rattle.disk.specs.declared.error.DiskError.TheVariants.{Failed}
use Rattle.errno.specs.declared.TheConstants.{ENOSYS}
use Rattle.linux_disk.specs.Below.{HoldsAt, WasLooked}
use Rattle.linux_disk.specs.Calls.{Done, OpenedFile, Set, SetAt}
use Rattle.linux_disk.specs.Places.{way_to}
use Rattle.linux_disk.specs.Ways.{way_in}

-- the text leads to that name in the folder that is open under the number, maybe behind a guard
pub record Leads (number : ℕ) (name text : List ℕ) : Type 0 where
  pub guard : List ℕ
  pub spelled : text ≡ guard ++ (way_to number ++ name)

-- that name was opened
pub record WasOpened (did : Done → Type 0) (number : ℕ) (name : List ℕ) (access : Access) (stamp : ℕ) : Type 0 where
  pub text : List ℕ
  pub leads : Leads number name text
  pub done : did (OpenedFile text access stamp)

-- that was set of the name
pub record WasSetAt (did : Done → Type 0) (number : ℕ) (name : List ℕ) (change : Change) : Type 0 where
  pub text : List ℕ
  pub leads : Leads number name text
  pub done : did (SetAt text change)

-- that was set of the folder to which the way leads: by its names, but times once it was opened for that
abbrev pub WasSetBelow : (did : Done → Type 0) → (guards : List ℕ → Type 0) → (number : ℕ) → (way : List ℕ) → (change : Change) → Type 0
WasSetBelow did guards number way (Permissions bits) = WasSetAt did number way (Permissions bits)
WasSetBelow did guards number way (Owner uid gid) = WasSetAt did number way (Owner uid gid)
WasSetBelow did guards number way (Times accessed modified) = HoldsAt did guards (way_to number ++ way) (λ stamp. did (Set stamp (Times accessed modified)))

-- that was set of what is open, or of the folder to which the way leads
abbrev pub WasSet : (did : Done → Type 0) → (guards : List ℕ → Type 0) → (stamp number : ℕ) → (below : Option (List ℕ)) → (change : Change) → Type 0
WasSet did guards stamp number None change = did (Set stamp change)
WasSet did guards stamp number (Some way) change = WasSetBelow did guards number way change

-- nothing is to be set
abbrev pub IsNothing : Change → Type 0
IsNothing (Permissions bits) = ⊥
IsNothing (Owner uid gid) = (uid ≡ None) × (gid ≡ None)
IsNothing (Times accessed modified) = (accessed ≡ None) × (modified ≡ None)

-- A link has no permission bits of its own, and times are set of what is open, as neither a link nor a special file ever is.
abbrev pub IsUnsupported : Option Kind → Change → Type 0
IsUnsupported (Some Link) (Permissions bits) = Unit {0}
IsUnsupported (Some Link) (Times accessed modified) = Unit {0}
IsUnsupported (Some (Special special)) (Times accessed modified) = Unit {0}
IsUnsupported kind change = ⊥

-- a look has shown there what it cannot be set of
pub record WasUnsupported (did : Done → Type 0) (guards : List ℕ → Type 0) (dir number : ℕ) (below : Option (List ℕ)) (name : List ℕ) (change : Change) : Type 0 where
  pub stat : Stat
  pub seen : WasLooked did guards dir number below name stat
  pub unsupported : IsUnsupported stat.kind change

-- The error number that says so: of permission bits EOPNOTSUPP (95), as Linux has it, and of times ENOSYS, since no call is there for them.
abbrev pub unsupported_errno : Change → ℤ
unsupported_errno (Permissions bits) = pos 95
unsupported_errno (Owner uid gid) = pos 95
unsupported_errno (Times accessed modified) = ENOSYS

-- The failure is the system's, or the one that says so.
abbrev pub IsWhyNotSet : (did : Done → Type 0) → (guards : List ℕ → Type 0) → (dir number : ℕ) → (below : Option (List ℕ)) → (name : List ℕ) → (change : Change) → (error result : DiskError) → Type 0
IsWhyNotSet did guards dir number below name change error result = (result ≡ error) ⊎ (WasUnsupported did guards dir number below name change × (result ≡ Failed (unsupported_errno change)))

-- the bits that a new file or folder is asked to have
abbrev pub bits_of : (default : ℕ) → Option ℕ → ℕ
bits_of default None = default
bits_of default (Some wanted) = bit_and wanted 4095

-- A new file has the bits that were asked for: the mask takes none of them, or they were set.
abbrev pub HasBits : (did : Done → Type 0) → (mask stamp : ℕ) → Option ℕ → Type 0
HasBits did mask stamp None = Unit {0}
HasBits did mask stamp (Some wanted) = (bit_and wanted mask ≡ 0) ⊎ did (Set stamp (Permissions wanted))

-- those were set of the folder with that name, beside the ones that it had
pub record WasCompleted (did : Done → Type 0) (guards : List ℕ → Type 0) (dir number : ℕ) (below : Option (List ℕ)) (name : List ℕ) (wanted : ℕ) : Type 0 where
  pub stat : Stat
  pub seen : WasLooked did guards dir number below name stat
  pub set : WasSetAt did number (way_in below ++ name) (Permissions (bit_or stat.details.permissions wanted))

-- So has a new folder.
abbrev pub HasBitsAt : (did : Done → Type 0) → (guards : List ℕ → Type 0) → (mask dir number : ℕ) → (below : Option (List ℕ)) → (name : List ℕ) → Option ℕ → Type 0
HasBitsAt did guards mask dir number below name None = Unit {0}
HasBitsAt did guards mask dir number below name (Some wanted) = (bit_and wanted mask ≡ 0) ⊎ WasCompleted did guards dir number below name wanted

-- no file of the system has a byte there
pub record ReadsNone (offset n : ℕ) : Type 0 where
  pub far : 2 ^ 63 ≤ offset
  pub none : n ≡ 0
