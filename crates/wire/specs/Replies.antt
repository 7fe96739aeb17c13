-- Which bytes are a reply.
use Rattle.std.specs.Prelude.{◌≡◌, ℕ, ◌+◌, ◌/◌, ◌%◌, ◌≤◌, List, [], ◌∷◌, ◌++◌, length, drop, ℤ, pos, neg_ℤ, ◌≤ℤ◌, ◌==◌, if◌then◌else◌}
use Rattle.std.specs.Int.{cast_signed, w32}
use Rattle.byteorder.specs.Endian.{little_number}
use Rattle.wire.specs.declared.reply.TheConstants.{REPLY_HEADER_LEN}
use Rattle.wire.specs.declared.request.TheConstants.{MAX_READ_LEN}
use Rattle.wire.specs.declared.reply.Reply.{Reply}
use Rattle.wire.specs.declared.reply.ReplyBody.{ReplyBody}
use Rattle.wire.specs.declared.reply.ReplyBody.TheVariants.{Failed, Done, Entry, Attributes, Opened, Created, Wrote, Data, StatFs, Init}
use Rattle.wire.specs.declared.reply.Entry.{Entry as GivenEntry}
use Rattle.wire.specs.declared.reply.Attributes.{Attributes as GivenAttributes}
use Rattle.wire.specs.declared.reply.InitOut.{InitOut}
use Rattle.payload.specs.declared.attributes.Kind.{Kind}
use Rattle.payload.specs.declared.attributes.Kind.TheVariants.{Folder, File, Link, Special}
use Rattle.payload.specs.declared.attributes.Special.TheVariants.{Pipe, Socket, Character, Block}
use Rattle.wire.specs.Fields.{Field, raw, u16, u32, u64, Value, num, bytes, Spells}

-- ---- attributes and entries

-- the file type bits of a mode, as in stat.h
abbrev pub type_bits : Kind → ℕ
type_bits Folder = 0o40000
type_bits File = 0o100000
type_bits Link = 0o120000
type_bits (Special Pipe) = 0o10000
type_bits (Special Socket) = 0o140000
type_bits (Special (Character _)) = 0o20000
type_bits (Special (Block _)) = 0o60000

-- the number of a device, and 0 for what is none
abbrev pub rdev_of : Kind → ℕ
rdev_of Folder = 0
rdev_of File = 0
rdev_of Link = 0
rdev_of (Special Pipe) = 0
rdev_of (Special Socket) = 0
rdev_of (Special (Character number)) = number
rdev_of (Special (Block number)) = number

-- the file type bits, and the lowest twelve bits of the permissions
abbrev pub mode_of : Kind → ℕ → ℕ
mode_of kind permissions = type_bits kind + permissions % 4096

-- how many blocks of 512 bytes hold that many bytes
abbrev pub blocks_of : ℕ → ℕ
blocks_of size = size / 512 + (if size % 512 == 0 then 0 else 1)

-- ino, size, blocks, atime, mtime, ctime; atimensec, mtimensec, ctimensec, mode, nlink, uid, gid, rdev, blksize, padding
abbrev pub attributes_layout : List Field
attributes_layout =
    u64 ∷ u64 ∷ u64 ∷ u64 ∷ u64 ∷ u64 ∷ u32 ∷ u32 ∷ u32 ∷ u32 ∷ u32 ∷ u32 ∷ u32 ∷ u32 ∷ u32 ∷ u32 ∷ []

abbrev pub attributes_values : GivenAttributes → List Value
attributes_values a =
    num a.details.ino ∷ num a.size ∷ num (blocks_of a.size)
    ∷ num a.details.accessed.seconds ∷ num a.details.modified.seconds ∷ num a.details.changed.seconds
    ∷ num a.details.accessed.nanos ∷ num a.details.modified.nanos ∷ num a.details.changed.nanos
    ∷ num (mode_of a.kind a.details.permissions) ∷ num a.details.links ∷ num a.details.uid ∷ num a.details.gid ∷ num (rdev_of a.kind) ∷ num 4096 ∷ num 0 ∷ []

-- nodeid, generation, entry_valid, attr_valid; entry_valid_nsec, attr_valid_nsec; the attributes
abbrev pub entry_layout : List Field
entry_layout = u64 ∷ u64 ∷ u64 ∷ u64 ∷ u32 ∷ u32 ∷ attributes_layout

abbrev pub entry_values : GivenEntry → List Value
entry_values e = num e.node ∷ num e.generation ∷ num 1 ∷ num 1 ∷ num 0 ∷ num 0 ∷ attributes_values e.attributes

-- attr_valid; attr_valid_nsec, dummy; the attributes
abbrev pub attr_layout : List Field
attr_layout = u64 ∷ u32 ∷ u32 ∷ attributes_layout

abbrev pub attr_values : GivenAttributes → List Value
attr_values a = num 1 ∷ num 0 ∷ num 0 ∷ attributes_values a

-- ---- sizes of the file system

-- blocks, bfree, bavail, files, ffree; bsize, namelen, frsize, padding, and six spare fields
abbrev pub statfs_layout : List Field
statfs_layout = u64 ∷ u64 ∷ u64 ∷ u64 ∷ u64 ∷ u32 ∷ u32 ∷ u32 ∷ u32 ∷ u32 ∷ u32 ∷ u32 ∷ u32 ∷ u32 ∷ u32 ∷ []

abbrev pub statfs_values : List Value
statfs_values =
    num 0 ∷ num 0 ∷ num 0 ∷ num 0 ∷ num 0
    ∷ num 4096 ∷ num 255 ∷ num 4096 ∷ num 0 ∷ num 0 ∷ num 0 ∷ num 0 ∷ num 0 ∷ num 0 ∷ num 0 ∷ []

-- ---- a handle

-- fh; open_flags, padding
abbrev pub opened_layout : List Field
opened_layout = u64 ∷ u32 ∷ u32 ∷ []

abbrev pub opened_values : ℕ → List Value
opened_values fh = num fh ∷ num 0 ∷ num 0 ∷ []

-- an entry and a handle
abbrev pub created_layout : List Field
created_layout = entry_layout ++ opened_layout

abbrev pub created_values : GivenEntry → ℕ → List Value
created_values e fh = entry_values e ++ opened_values fh

-- ---- how much was written: size, padding

abbrev pub wrote_layout : List Field
wrote_layout = u32 ∷ u32 ∷ []

abbrev pub wrote_values : ℕ → List Value
wrote_values size = num size ∷ num 0 ∷ []

-- ---- the answer to INIT

-- major, minor, max_readahead, flags; max_background, congestion_threshold; max_write, time_gran; max_pages, then one
-- two-byte number and eight four-byte numbers that are unused
abbrev pub init_layout : List Field
init_layout = u32 ∷ u32 ∷ u32 ∷ u32 ∷ u16 ∷ u16 ∷ u32 ∷ u32 ∷ u16 ∷ u16 ∷ u32 ∷ u32 ∷ u32 ∷ u32 ∷ u32 ∷ u32 ∷ u32 ∷ u32 ∷ []

abbrev pub init_values : InitOut → List Value
init_values i =
    num i.major ∷ num i.minor ∷ num i.max_readahead ∷ num i.flags ∷ num i.max_background ∷ num i.congestion_threshold
    ∷ num i.max_write ∷ num i.time_gran ∷ num i.max_pages ∷ num 0 ∷ num 0 ∷ num 0 ∷ num 0 ∷ num 0 ∷ num 0 ∷ num 0 ∷ num 0 ∷ num 0 ∷ []

-- ---- the header: the length, the error and the number of the request

abbrev pub error_in : List ℕ → ℤ
error_in frame = cast_signed w32 (little_number 4 (drop 4 frame))

abbrev pub answered_in : List ℕ → ℕ
answered_in frame = little_number 8 (drop 8 frame)

abbrev pub error_of : ReplyBody → ℤ
error_of (Failed errno) = neg_ℤ errno
error_of _ = pos 0

-- ---- the body

abbrev pub reply_layout : ReplyBody → List Field
reply_layout (Failed _) = []
reply_layout Done = []
reply_layout (Entry _) = entry_layout
reply_layout (Attributes _) = attr_layout
reply_layout (Opened _) = opened_layout
reply_layout (Created _ _) = created_layout
reply_layout (Wrote _) = wrote_layout
reply_layout (Data d) = raw (length d) ∷ []
reply_layout StatFs = statfs_layout
reply_layout (Init _) = init_layout

abbrev pub reply_values : ReplyBody → List Value
reply_values (Failed _) = []
reply_values Done = []
reply_values (Entry e) = entry_values e
reply_values (Attributes a) = attr_values a
reply_values (Opened fh) = opened_values fh
reply_values (Created e fh) = created_values e fh
reply_values (Wrote size) = wrote_values size
reply_values (Data d) = bytes d ∷ []
reply_values StatFs = statfs_values
reply_values (Init i) = init_values i

-- ---- replies

-- an error number is 1 to 4,095
pub record IsErrno (errno : ℤ) : Type 0 where
  pub low : pos 1 ≤ℤ errno
  pub high : errno ≤ℤ pos 4095

-- a folder has size 0
abbrev pub IsSized : Kind → ℕ → Type 0
IsSized Folder size = size ≡ 0
IsSized File size = Unit {0}
IsSized Link size = Unit {0}
IsSized (Special _) size = Unit {0}

-- which values the body of a reply may have
abbrev pub IsAnswer : ReplyBody → Type 0
IsAnswer (Failed errno) = IsErrno errno
IsAnswer Done = Unit {0}
IsAnswer (Entry e) = IsSized e.attributes.kind e.attributes.size
IsAnswer (Attributes a) = IsSized a.kind a.size
IsAnswer (Opened fh) = Unit {0}
IsAnswer (Created e fh) = IsSized e.attributes.kind e.attributes.size
IsAnswer (Wrote size) = Unit {0}
IsAnswer (Data d) = length d ≤ MAX_READ_LEN
IsAnswer StatFs = Unit {0}
IsAnswer (Init i) = Unit {0}

-- The frame is this reply.
pub record IsReply (frame : List ℕ) (r : Reply) : Type 0 where
  pub answer : IsAnswer r.body
  pub long : REPLY_HEADER_LEN ≤ length frame
  pub len : little_number 4 frame ≡ length frame
  pub error : error_in frame ≡ error_of r.body
  pub unique : r.unique ≡ answered_in frame
  pub body : Spells (reply_layout r.body) (reply_values r.body) (drop REPLY_HEADER_LEN frame)
