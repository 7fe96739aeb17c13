-- Why a call did not do its work.
use Rattle.std.specs.Prelude.{ℤ, ◌++◌, ◌∷◌, []}
use Rattle.errno.specs.declared.TheConstants.{EBUSY, ENOENT, EEXIST, ENOTDIR, EISDIR, EINVAL, ENOTEMPTY}
use Rattle.paths.specs.Prefixes.{Name, Names}
use Rattle.backing.specs.Tree.{Tree, Blocks, Stops}
use Rattle.disk_folder.specs.declared.trouble.Trouble.{Trouble}
use Rattle.disk_folder.specs.declared.trouble.Trouble.TheVariants.{Refused, Failed}
use Rattle.disk_folder.specs.declared.trouble.Reason.{Reason}
use Rattle.disk_folder.specs.declared.trouble.Reason.TheVariants.{Root, Nothing, Taken, NoFolder, Folder, NoFile, NoLink, Below, Names as HasNames}

-- its error number
abbrev pub reason_errno : Reason → ℤ
reason_errno Root = EBUSY
reason_errno Nothing = ENOENT
reason_errno Taken = EEXIST
reason_errno NoFolder = ENOTDIR
reason_errno Folder = EISDIR
reason_errno NoFile = EINVAL
reason_errno NoLink = EINVAL
reason_errno Below = EINVAL
reason_errno HasNames = ENOTEMPTY

-- a call of the system failed
abbrev pub IsFailure : Trouble → Type 0
IsFailure (Refused reason) = ⊥
IsFailure (Failed errno) = Unit {0}

-- no folder stands at q, or a call of the system failed
abbrev pub IsBlocked : Tree → Names → Trouble → Type 0
IsBlocked at q (Refused reason) = Blocks (at q) (reason_errno reason)
IsBlocked at q (Failed errno) = Unit {0}

-- no way leads down to q, or a call of the system failed
abbrev pub IsStopped : Tree → Names → Trouble → Type 0
IsStopped at q (Refused reason) = Stops at q (reason_errno reason)
IsStopped at q (Failed errno) = Unit {0}

-- no way leads down to what is in the folder p, or a call of the system failed
abbrev pub IsBarred : Tree → Names → Trouble → Type 0
IsBarred at p (Refused reason) = (name : Name) → Stops at (p ++ name ∷ []) (reason_errno reason)
IsBarred at p (Failed errno) = Unit {0}
