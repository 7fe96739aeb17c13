-- Checking a directory's answers: one that does not fit its call is EIO.
use Rattle.std.specs.Prelude.{ℕ, ℤ, pos, int_le, nat_le, nat_lt, ◌^◌, ◌&&◌, ◌==◌, Bool, true, false, if◌then◌else◌, List, length}
use Rattle.errno.specs.declared.TheConstants.{EIO}
use Rattle.payload.specs.declared.attributes.Kind.{Kind}
use Rattle.payload.specs.declared.attributes.Kind.TheVariants.{Folder, File, Link, Special}
use Rattle.backing.specs.declared.call.Answer.{Answer}
use Rattle.backing.specs.declared.call.Answer.TheVariants.{Done, Stat, Names, Bytes, Wrote, Fault}
use Rattle.backing.specs.Calls.{Asked, AskStat, AskList, AskMake, AskMakeDir, AskMakeLink, AskLink, AskRemove, AskRemoveDir, AskRename, AskRenameNew, AskExchange, AskRead, AskReadLink, AskWrite, AskSetLen, AskSetPermissions, AskSetOwner, AskSetTimes, AskSync}

-- an error number is 1 to 4,095
abbrev pub is_errno : ℤ → Bool
is_errno errno = int_le (pos 1) errno && int_le errno (pos 4095)

-- the error of an answer
abbrev pub errno_in : Answer → ℤ
errno_in (Fault errno) = if is_errno errno then errno else EIO
errno_in answer = EIO

-- a folder has size 0
abbrev pub is_sized : Kind → ℕ → Bool
is_sized Folder size = size == 0
is_sized File size = true
is_sized Link size = true
is_sized (Special special) size = true

-- no more bytes were written than there are, and a reply can say how many, in 32 bits
abbrev pub is_written : List ℕ → ℕ → Bool
is_written piece count = nat_le count (length piece) && nat_lt count (2 ^ 32)

-- the answer has the kind and shape for its call, and no more than was asked for; the text of a link has fewer than 4,096 bytes
abbrev pub fits : Asked → Answer → Bool
fits (AskStat p) (Stat kind size details) = is_sized kind size
fits (AskList p) (Names children) = true
fits (AskMake p permissions) Done = true
fits (AskMakeDir p permissions) Done = true
fits (AskMakeLink p text) Done = true
fits (AskLink s t) Done = true
fits (AskRemove p) Done = true
fits (AskRemoveDir p) Done = true
fits (AskRename s t) Done = true
fits (AskRenameNew s t) Done = true
fits (AskExchange s t) Done = true
fits (AskRead p offset size) (Bytes bytes) = nat_le (length bytes) size
fits (AskReadLink p) (Bytes text) = nat_lt (length text) 4096
fits (AskWrite p offset piece) (Wrote count) = is_written piece count
fits (AskSetLen p size) Done = true
fits (AskSetPermissions p permissions) Done = true
fits (AskSetOwner p uid gid) Done = true
fits (AskSetTimes p accessed modified) Done = true
fits (AskSync p) Done = true
fits call answer = false

abbrev pub judged : Asked → Answer → Answer
judged call answer = if fits call answer then answer else Fault (errno_in answer)
