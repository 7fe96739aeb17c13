-- The numbers of the protocol, as in `fuse.h`: if a constant is changed, this proof fails.
use Rattle.std.proofs.Common.{ℕ, ◌≡◌, List, [], ◌∷◌, refl}
use Rattle.wire.specs.declared.dirents.TheConstants.{DIRENT_LEN, NO_INO}
use Rattle.wire.specs.declared.opcode.TheConstants.{LOOKUP, FORGET, GETATTR, SETATTR, READLINK, SYMLINK, MKDIR, UNLINK, RMDIR, RENAME, LINK, OPEN, READ, WRITE, STATFS, RELEASE, FSYNC, FLUSH, INIT, OPENDIR, READDIR, RELEASEDIR, FSYNCDIR, CREATE, INTERRUPT, DESTROY, BATCH_FORGET, READDIRPLUS, RENAME2}
use Rattle.wire.specs.declared.reply.TheConstants.{REPLY_HEADER_LEN, ENTRY_LEN, ATTRIBUTES_LEN, STATFS_LEN, INIT_LEN, OPENED_LEN, CREATED_LEN, WROTE_LEN}
use Rattle.wire.specs.declared.request.TheConstants.{HEADER_LEN, MAX_FRAME_LEN, MAX_READ_LEN, MAX_WRITE_LEN}

pub opcodes_are : ◌≡◌ {A = List ℕ}
    (LOOKUP ∷ FORGET ∷ GETATTR ∷ SETATTR ∷ READLINK ∷ SYMLINK ∷ MKDIR ∷ UNLINK ∷ RMDIR ∷ RENAME ∷ LINK ∷ OPEN ∷ READ ∷ WRITE ∷ STATFS ∷ RELEASE ∷ FSYNC ∷ FLUSH ∷ INIT ∷ OPENDIR ∷ READDIR ∷ RELEASEDIR ∷ FSYNCDIR ∷ CREATE ∷ INTERRUPT ∷ DESTROY ∷ BATCH_FORGET ∷ READDIRPLUS ∷ RENAME2 ∷ [])
    (1 ∷ 2 ∷ 3 ∷ 4 ∷ 5 ∷ 6 ∷ 9 ∷ 10 ∷ 11 ∷ 12 ∷ 13 ∷ 14 ∷ 15 ∷ 16 ∷ 17 ∷ 18 ∷ 20 ∷ 25 ∷ 26 ∷ 27 ∷ 28 ∷ 29 ∷ 30 ∷ 35 ∷ 36 ∷ 38 ∷ 42 ∷ 44 ∷ 45 ∷ [])
opcodes_are = refl

-- the lengths of what frames contain
pub lengths_are : ◌≡◌ {A = List ℕ}
    (HEADER_LEN ∷ REPLY_HEADER_LEN ∷ ENTRY_LEN ∷ ATTRIBUTES_LEN ∷ STATFS_LEN ∷ INIT_LEN ∷ OPENED_LEN ∷ CREATED_LEN ∷ WROTE_LEN ∷ DIRENT_LEN ∷ [])
    (40 ∷ 16 ∷ 128 ∷ 104 ∷ 80 ∷ 64 ∷ 16 ∷ 144 ∷ 8 ∷ 24 ∷ [])
lengths_are = refl

-- the limits on frames, and the inode number of an entry that was not looked up
pub limits_are : ◌≡◌ {A = List ℕ}
    (MAX_FRAME_LEN ∷ MAX_READ_LEN ∷ MAX_WRITE_LEN ∷ NO_INO ∷ [])
    (69632 ∷ 131072 ∷ 65536 ∷ 4294967295 ∷ [])
limits_are = refl
