-- Directory entries, as READDIR and READDIRPLUS return them.
use Rattle.std.specs.Prelude.{ℕ, ◌+◌, ◌-◌, ◌%◌, List, [], ◌∷◌, ◌++◌, length, map, Option, Some, None}
use Rattle.wire.specs.declared.dirents.TheConstants.{DIRENT_LEN, NO_INO}
use Rattle.wire.specs.declared.reply.Entry.{Entry}
use Rattle.payload.specs.declared.attributes.Kind.{Kind}
use Rattle.payload.specs.declared.attributes.Kind.TheVariants.{Folder, File, Link, Special}
use Rattle.payload.specs.declared.attributes.Special.TheVariants.{Pipe, Socket, Character, Block}
use Rattle.wire.specs.Fields.{Field, raw, u32, u64, Value, num, bytes, Spells}
use Rattle.wire.specs.Replies.{entry_layout, entry_values}
use Rattle.wire.specs.Written.{zeros, written}

-- ---- an entry of READDIR

-- its inode number, the offset of the next entry, its type, and its name
pub record Dirent : Type 0 where
  pub ino : ℕ
  pub next : ℕ
  pub kind : Kind
  pub name : List ℕ

-- the type, as in a mode, divided by 2 ^ 12
abbrev pub type_of : Kind → ℕ
type_of Folder = 4
type_of File = 8
type_of Link = 10
type_of (Special Pipe) = 1
type_of (Special Socket) = 12
type_of (Special (Character _)) = 2
type_of (Special (Block _)) = 6

-- how many zeros fill up that many bytes to a multiple of 8
abbrev pub padding : ℕ → ℕ
padding len = (8 - len % 8) % 8

abbrev pub padding_of : List ℕ → ℕ
padding_of name = padding (DIRENT_LEN + length name)

-- ino, off, namelen, type; the name, and padding
abbrev pub dirent_layout : Dirent → List Field
dirent_layout d = u64 ∷ u64 ∷ u32 ∷ u32 ∷ raw (length d.name) ∷ raw (padding_of d.name) ∷ []

abbrev pub dirent_values : Dirent → List Value
dirent_values d = num d.ino ∷ num d.next ∷ num (length d.name) ∷ num (type_of d.kind) ∷ bytes d.name ∷ bytes (zeros (padding_of d.name)) ∷ []

-- The bytes are this entry.
abbrev pub IsDirent : Dirent → List ℕ → Type 0
IsDirent d body = Spells (dirent_layout d) (dirent_values d) body

unfoldable pub dirent_bytes : Dirent → List ℕ
dirent_bytes d = written (dirent_layout d) (dirent_values d)

-- ---- an entry of READDIRPLUS: the entry's node, if it was looked up, and then as above. The padding is the same,
-- since the entry of a node has a multiple of 8 bytes.

pub record PlusDirent : Type 0 where
  pub entry : Option Entry
  pub next : ℕ
  pub kind : Kind
  pub name : List ℕ

abbrev pub ino_of : Option Entry → ℕ
ino_of (Some e) = e.attributes.details.ino
ino_of None = NO_INO

abbrev pub dirent_in : PlusDirent → Dirent
dirent_in p = record { ino = ino_of p.entry; next = p.next; kind = p.kind; name = p.name }

-- if it was not looked up, everything is zero
abbrev pub given_values : Option Entry → List Value
given_values (Some e) = entry_values e
given_values None = map (λ _. num 0) entry_layout

abbrev pub plus_layout : PlusDirent → List Field
plus_layout p = entry_layout ++ dirent_layout (dirent_in p)

abbrev pub plus_values : PlusDirent → List Value
plus_values p = given_values p.entry ++ dirent_values (dirent_in p)

abbrev pub IsPlusDirent : PlusDirent → List ℕ → Type 0
IsPlusDirent p body = Spells (plus_layout p) (plus_values p) body

unfoldable pub plus_bytes : PlusDirent → List ℕ
plus_bytes p = written (plus_layout p) (plus_values p)
