-- Which bytes are a request. What is not named here is not read.
use Rattle.std.specs.Prelude.{◌≡◌, ◌≢◌, ℕ, ◌-◌, ◌^◌, ◌<◌, ◌≤◌, List, [], ◌∷◌, length, drop, Option, Some, None, ◌==◌, if◌then◌else◌, All, codes}
use Rattle.std.specs.List.{AllByRecursion}
use Rattle.byteorder.specs.Endian.{little_number}
use Rattle.terms.specs.declared.settings.Names.{Names}
use Rattle.terms.specs.Names.{IsSpelled}
use Rattle.wire.specs.declared.header.Header.{Header}
use Rattle.wire.specs.declared.request.Caller.{Caller}
use Rattle.wire.specs.declared.opcode.TheConstants.{LOOKUP, FORGET, GETATTR, SETATTR, READLINK, SYMLINK, MKDIR, UNLINK, RMDIR, RENAME, LINK, OPEN, READ, WRITE, STATFS, RELEASE, FSYNC, FLUSH, INIT, OPENDIR, READDIR, RELEASEDIR, FSYNCDIR, CREATE, INTERRUPT, DESTROY, BATCH_FORGET, READDIRPLUS, RENAME2}
use Rattle.wire.specs.declared.request.TheConstants.{HEADER_LEN, MAX_FRAME_LEN, MAX_READ_LEN, MAX_WRITE_LEN}
use Rattle.wire.specs.declared.request.NewAttributes.{NewAttributes}
use Rattle.wire.specs.declared.request.Request.{Request}
use Rattle.wire.specs.declared.request.Operation.{Operation}
use Rattle.wire.specs.declared.request.Operation.TheVariants.{Lookup, Forget, GetAttr, SetAttr, ReadLink, MakeLink, MakeDir, Unlink, RemoveDir, Rename, Link, Open, Read, Write, StatFs, Release, Sync, Flush, Init, OpenDir, ReadDir, ReleaseDir, SyncDir, Create, Interrupt, Destroy, BatchForget, ReadDirPlus, Rename2}
use Rattle.wire.specs.Fields.{Field, unread, text, link_text, counted, limited, anything, u32, u64, Value, num, name, bytes, Spells}

-- ---- the header: the length, the opcode, unique, the node number, the user and the group of the calling process, and
-- eight bytes that are not read

abbrev pub opcode_in : List ℕ → ℕ
opcode_in frame = little_number 4 (drop 4 frame)

abbrev pub unique_in : List ℕ → ℕ
unique_in frame = little_number 8 (drop 8 frame)

abbrev pub node_in : List ℕ → ℕ
node_in frame = little_number 8 (drop 16 frame)

abbrev pub uid_in : List ℕ → ℕ
uid_in frame = little_number 4 (drop 24 frame)

abbrev pub gid_in : List ℕ → ℕ
gid_in frame = little_number 4 (drop 28 frame)

abbrev pub caller_in : List ℕ → Caller
caller_in frame = record { uid = uid_in frame; gid = gid_in frame }

abbrev pub body_in : List ℕ → List ℕ
body_in frame = drop HEADER_LEN frame

abbrev pub header_in : List ℕ → Header
header_in frame = record { opcode = opcode_in frame; unique = unique_in frame; node = node_in frame; uid = uid_in frame; gid = gid_in frame }

-- a whole frame, as long as its header says
pub record IsFramed (frame : List ℕ) : Type 0 where
  pub long : HEADER_LEN ≤ length frame
  pub short : length frame ≤ MAX_FRAME_LEN
  pub len : little_number 4 frame ≡ length frame

-- ---- the body, by the opcode: a further opcode is one more line in each table

-- after the size of a SETATTR: lock_owner, atime, mtime, ctime; atimensec, mtimensec, ctimensec, mode, unused, uid,
-- gid, unused
abbrev pub new_attributes_layout : List Field
new_attributes_layout =
    unread 8 ∷ u64 ∷ u64 ∷ unread 8 ∷ u32 ∷ u32 ∷ unread 4 ∷ u32 ∷ unread 4 ∷ u32 ∷ u32 ∷ unread 4 ∷ []

abbrev pub new_attributes_values : NewAttributes → List Value
new_attributes_values a =
    num a.accessed.seconds ∷ num a.modified.seconds ∷ num a.accessed.nanos ∷ num a.modified.nanos
    ∷ num a.mode ∷ num a.uid ∷ num a.gid ∷ []

-- the fields of its body, if the opcode is served
abbrev pub layout : ℕ → Option (List Field)
layout opcode =
    if opcode == LOOKUP then Some (text ∷ [])
    else (if opcode == FORGET then Some (u64 ∷ [])
    else (if opcode == GETATTR then Some (unread 16 ∷ [])
    else (if opcode == SETATTR then Some (u32 ∷ unread 4 ∷ u64 ∷ u64 ∷ new_attributes_layout)
    else (if opcode == READLINK then Some (anything ∷ [])
    else (if opcode == SYMLINK then Some (text ∷ link_text ∷ [])
    else (if opcode == MKDIR then Some (u32 ∷ u32 ∷ text ∷ [])
    else (if opcode == UNLINK then Some (text ∷ [])
    else (if opcode == RMDIR then Some (text ∷ [])
    else (if opcode == RENAME then Some (u64 ∷ text ∷ text ∷ [])
    else (if opcode == LINK then Some (u64 ∷ text ∷ [])
    else (if opcode == OPEN then Some (u32 ∷ unread 4 ∷ [])
    else (if opcode == READ then Some (u64 ∷ u64 ∷ limited MAX_READ_LEN ∷ unread 20 ∷ [])
    else (if opcode == WRITE then Some (u64 ∷ u64 ∷ counted 1 20 MAX_WRITE_LEN ∷ [])
    else (if opcode == STATFS then Some []
    else (if opcode == RELEASE then Some (u64 ∷ unread 16 ∷ [])
    else (if opcode == FSYNC then Some (u64 ∷ unread 8 ∷ [])
    else (if opcode == FLUSH then Some (u64 ∷ unread 16 ∷ [])
    else (if opcode == INIT then Some (u32 ∷ u32 ∷ u32 ∷ u32 ∷ anything ∷ [])
    else (if opcode == OPENDIR then Some (unread 8 ∷ [])
    else (if opcode == READDIR then Some (u64 ∷ u64 ∷ limited MAX_READ_LEN ∷ unread 20 ∷ [])
    else (if opcode == RELEASEDIR then Some (u64 ∷ unread 16 ∷ [])
    else (if opcode == FSYNCDIR then Some (u64 ∷ unread 8 ∷ [])
    else (if opcode == CREATE then Some (u32 ∷ u32 ∷ u32 ∷ unread 4 ∷ text ∷ [])
    else (if opcode == INTERRUPT then Some (anything ∷ [])
    else (if opcode == DESTROY then Some []
    else (if opcode == BATCH_FORGET then Some (counted 16 4 (2 ^ 32 - 1) ∷ [])
    else (if opcode == READDIRPLUS then Some (u64 ∷ u64 ∷ limited MAX_READ_LEN ∷ unread 20 ∷ [])
    else (if opcode == RENAME2 then Some (u64 ∷ u32 ∷ unread 4 ∷ text ∷ text ∷ [])
    else None))))))))))))))))))))))))))))

abbrev pub opcode_of : Operation → ℕ
opcode_of (Lookup _) = LOOKUP
opcode_of (Forget _) = FORGET
opcode_of GetAttr = GETATTR
opcode_of (SetAttr _ _ _ _) = SETATTR
opcode_of ReadLink = READLINK
opcode_of (MakeLink _ _) = SYMLINK
opcode_of (MakeDir _ _ _) = MKDIR
opcode_of (Unlink _) = UNLINK
opcode_of (RemoveDir _) = RMDIR
opcode_of (Rename _ _ _) = RENAME
opcode_of (Link _ _) = LINK
opcode_of (Open _) = OPEN
opcode_of (Read _ _ _) = READ
opcode_of (Write _ _ _) = WRITE
opcode_of StatFs = STATFS
opcode_of (Release _) = RELEASE
opcode_of (Sync _) = FSYNC
opcode_of (Flush _) = FLUSH
opcode_of (Init _ _ _ _) = INIT
opcode_of OpenDir = OPENDIR
opcode_of (ReadDir _ _ _) = READDIR
opcode_of (ReleaseDir _) = RELEASEDIR
opcode_of (SyncDir _) = FSYNCDIR
opcode_of (Create _ _ _ _) = CREATE
opcode_of Interrupt = INTERRUPT
opcode_of Destroy = DESTROY
opcode_of (BatchForget _) = BATCH_FORGET
opcode_of (ReadDirPlus _ _ _) = READDIRPLUS
opcode_of (Rename2 _ _ _ _) = RENAME2

-- the values of an operation in the fields of its layout
abbrev pub values_of : Operation → List Value
values_of (Lookup n) = name n.now ∷ []
values_of (Forget nlookup) = num nlookup ∷ []
values_of GetAttr = []
values_of (SetAttr valid fh size attributes) = num valid ∷ num fh ∷ num size ∷ new_attributes_values attributes
values_of ReadLink = []
values_of (MakeLink n t) = name n.now ∷ bytes t.now ∷ []
values_of (MakeDir n mode umask) = num mode ∷ num umask ∷ name n.now ∷ []
values_of (Unlink n) = name n.now ∷ []
values_of (RemoveDir n) = name n.now ∷ []
values_of (Rename n new_parent new_name) = num new_parent ∷ name n.now ∷ name new_name.now ∷ []
values_of (Link old_node n) = num old_node ∷ name n.now ∷ []
values_of (Open flags) = num flags ∷ []
values_of (Read fh offset size) = num fh ∷ num offset ∷ num size ∷ []
values_of (Write fh offset written) = num fh ∷ num offset ∷ bytes written.now ∷ []
values_of StatFs = []
values_of (Release fh) = num fh ∷ []
values_of (Sync fh) = num fh ∷ []
values_of (Flush fh) = num fh ∷ []
values_of (Init major minor max_readahead flags) = num major ∷ num minor ∷ num max_readahead ∷ num flags ∷ []
values_of OpenDir = []
values_of (ReadDir fh offset size) = num fh ∷ num offset ∷ num size ∷ []
values_of (ReleaseDir fh) = num fh ∷ []
values_of (SyncDir fh) = num fh ∷ []
values_of (Create n flags mode umask) = num flags ∷ num mode ∷ num umask ∷ name n.now ∷ []
values_of Interrupt = []
values_of Destroy = []
values_of (BatchForget pairs) = bytes pairs.now ∷ []
values_of (ReadDirPlus fh offset size) = num fh ∷ num offset ∷ num size ∷ []
values_of (Rename2 n new_parent flags new_name) = num new_parent ∷ num flags ∷ name n.now ∷ name new_name.now ∷ []

-- the body has that layout, with these values
abbrev pub IsLaidOut : Option (List Field) → List Value → List ℕ → Type 0
IsLaidOut None values body = ⊥
IsLaidOut (Some fields) values body = Spells fields values body

-- ---- names

-- 1 to 255 bytes, of UTF-8 where names are texts, neither `.` nor `..`, and no slash
pub record IsName (names : Names) (t : List ℕ) : Type 0 where
  pub some : 0 < length t
  pub short : length t ≤ 255
  pub spelled : IsSpelled names t
  pub not_here : t ≢ codes "."
  pub not_above : t ≢ codes ".."
  pub no_slash : All (λ b. b ≢ 47) t

-- the names among the values, in order
abbrev pub names_in : List Value → List (List ℕ)
names_in [] = []
names_in (name t ∷ values) = t ∷ names_in values
names_in (num _ ∷ values) = names_in values
names_in (bytes _ ∷ values) = names_in values

-- ---- requests

-- The frame is this request, of a session that takes these names.
pub record IsRequest (names : Names) (frame : List ℕ) (r : Request) : Type 0 where
  pub framed : IsFramed frame
  pub opcode : opcode_of r.operation ≡ opcode_in frame
  pub unique : r.unique ≡ unique_in frame
  pub node : r.node ≡ node_in frame
  pub caller : r.caller ≡ caller_in frame
  pub body : IsLaidOut (layout (opcode_in frame)) (values_of r.operation) (body_in frame)
  pub lawful : AllByRecursion (IsName names) (names_in (values_of r.operation))

-- the same request, wherever its names and its other bytes are stored
pub record IsSame (a b : Request) : Type 0 where
  pub unique : a.unique ≡ b.unique
  pub node : a.node ≡ b.node
  pub caller : a.caller ≡ b.caller
  pub opcode : opcode_of a.operation ≡ opcode_of b.operation
  pub values : values_of a.operation ≡ values_of b.operation
