-- Why nothing is served.
use Rattle.std.specs.Prelude.{ℤ, ◌≡◌, ◌≢◌}
use Rattle.std.specs.declared.io.ErrorKind.{ErrorKind}
use Rattle.std.specs.declared.io.ErrorKind.TheVariants.{OutOfMemory}
use Rattle.errno.specs.declared.TheConstants.{ENOMEM}
use Rattle.disk.specs.Errors.{errno_of}
use Rattle.linux_disk.specs.declared.start_error.StartError.{StartError}
use Rattle.linux_disk.specs.declared.start_error.StartError.TheVariants.{FollowsLinks, NoMemory, NoFolder as CannotOpen, NoDescriptors as CannotReach}
use Rattle.mirrord_sessions.specs.declared.folder.Unserved.{Unserved}
use Rattle.mirrord_sessions.specs.declared.folder.Unserved.TheVariants.{Memory, NoDescriptors, NoFolder, NoSocket}

-- where the system fails with an error of that kind as a client is to be awaited
abbrev pub unheard_by : ErrorKind → Unserved
unheard_by OutOfMemory = Memory
unheard_by kind = NoSocket

-- Where that error number is told: it is want of memory exactly for ENOMEM, else that other reason.
abbrev pub IsMemoryOr : (errno : ℤ) → (other : Unserved) → Unserved → Type 0
IsMemoryOr errno other why = (errno ≡ ENOMEM → why ≡ Memory) × (errno ≢ ENOMEM → why ≡ other)

-- where a folder is refused with it
abbrev pub IsUnopenedBy : (errno : ℤ) → Unserved → Type 0
IsUnopenedBy errno why = IsMemoryOr errno NoFolder why

-- where Linux is not served for that reason
abbrev pub IsUnstartedBy : StartError → Unserved → Type 0
IsUnstartedBy (CannotOpen error) why = IsUnopenedBy (errno_of error) why
IsUnstartedBy (CannotReach error) why = IsMemoryOr (errno_of error) NoDescriptors why
IsUnstartedBy FollowsLinks why = why ≡ NoDescriptors
IsUnstartedBy NoMemory why = why ≡ Memory
