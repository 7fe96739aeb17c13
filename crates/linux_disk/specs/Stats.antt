-- What a look tells.
use Rattle.std.specs.Prelude.{ℕ, ◌≡◌, ◌+◌, ◌*◌, ◌/◌, ◌%◌, ◌^◌, ◌==◌, Option, Some, None, bit_and, if◌then◌else◌}
use Rattle.std.specs.Int.{w64, cast_unsigned}
use Rattle.payload.specs.declared.attributes.Details.{Details}
use Rattle.payload.specs.declared.attributes.Kind.{Kind}
use Rattle.payload.specs.declared.attributes.Kind.TheVariants.{Folder, File, Link, Special}
use Rattle.payload.specs.declared.attributes.Special.TheVariants.{Pipe, Socket, Character, Block}
use Rattle.payload.specs.declared.attributes.Time.{Time}
use Rattle.terms.specs.declared.settings.Kinds.{Kinds}
use Rattle.terms.specs.declared.settings.Kinds.TheVariants as kinds
use Rattle.disk.specs.declared.stat.Stat.{Stat}
use Rattle.libc.specs.declared.types.statx.{statx}
use Rattle.libc.specs.declared.types.statx_timestamp.{statx_timestamp}

-- A device's number, of its major and its minor one: the lowest byte of the minor one, then the major one's lowest twelve bits, then the
-- next twelve of the minor one.
abbrev pub device_of : (major minor : ℕ) → ℕ
device_of major minor = minor % 256 + major % 4096 * 256 + minor / 256 % 4096 * 2 ^ 20

-- By the mode's highest four bits: 0o040000 is a folder, 0o100000 a file, 0o120000 a link, 0o010000 a pipe, 0o140000 a socket, 0o020000 a
-- device of characters, and 0o060000 one of blocks.
abbrev pub kind_of : (mode device : ℕ) → Option Kind
kind_of mode device =
    if bit_and mode 61440 == 16384 then Some Folder else (
    if bit_and mode 61440 == 32768 then Some File else (
    if bit_and mode 61440 == 40960 then Some Link else (
    if bit_and mode 61440 == 4096 then Some (Special Pipe) else (
    if bit_and mode 61440 == 49152 then Some (Special Socket) else (
    if bit_and mode 61440 == 8192 then Some (Special (Character device)) else (
    if bit_and mode 61440 == 24576 then Some (Special (Block device)) else None))))))

-- with `Plain` nothing but files and folders is shown
abbrev pub shown : Kinds → Option Kind → Option Kind
shown kinds.All kind = kind
shown kinds.Plain (Some Folder) = Some Folder
shown kinds.Plain (Some File) = Some File
shown kinds.Plain (Some Link) = None
shown kinds.Plain (Some (Special special)) = None
shown kinds.Plain None = None

-- what is shown is of those kinds
abbrev pub AreShown : Kinds → Option Kind → Type 0
AreShown kinds kind = shown kinds kind ≡ kind

-- a folder's is 0
abbrev pub size_of : Option Kind → ℕ → ℕ
size_of (Some Folder) size = 0
size_of (Some File) size = size
size_of (Some Link) size = size
size_of (Some (Special special)) size = size
size_of None size = size

abbrev pub time_of : statx_timestamp → Time
time_of time = record { seconds = cast_unsigned w64 time.tv_sec; nanos = time.tv_nsec }

-- the permission bits are the mode's lowest twelve
abbrev pub details_of : statx → Details
details_of told = record {
  ino = told.stx_ino;
  permissions = bit_and told.stx_mode 4095;
  links = told.stx_nlink;
  uid = told.stx_uid;
  gid = told.stx_gid;
  accessed = time_of told.stx_atime;
  modified = time_of told.stx_mtime;
  changed = time_of told.stx_ctime;
}

-- the kind, as far as it is shown
abbrev pub shown_of : Kinds → statx → Option Kind
shown_of kinds told = shown kinds (kind_of told.stx_mode (device_of told.stx_rdev_major told.stx_rdev_minor))

abbrev pub stat_of : Kinds → statx → Stat
stat_of kinds told = record {
  kind = shown_of kinds told;
  id = record { device = told.stx_dev_major * 4294967296 + told.stx_dev_minor; inode = told.stx_ino };
  size = size_of (shown_of kinds told) told.stx_size;
  details = details_of told;
}
