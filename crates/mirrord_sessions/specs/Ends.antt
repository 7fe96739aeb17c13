-- The ends of programs.
use Rattle.std.specs.Prelude.{ℕ, ◌≡◌, Bool, true, List, Option, Some, None, Result, Ok, Err, unwrap_or}
use Rattle.std.specs.Borrow.{Bor}
use Rattle.std.specs.Io.KnownBytes.{Appends, Keeps}
use Rattle.engine.specs.declared.ends.SessionEnd.{SessionEnd}
use Rattle.engine.specs.declared.ends.SessionEnd.TheVariants as end
use Rattle.mirrord_sessions.specs.declared.folder.Unserved.{Unserved}
use Rattle.mirrord_sessions.specs.declared.folder.Unserved.TheVariants as unserved
use Rattle.mirrord_commands.specs.Faults.{line_of, status_of}
use Rattle.mirrord_commands.specs.declared.faults.Fault.{Fault}
use Rattle.mirrord_commands.specs.declared.faults.Fault.TheVariants.{Descriptors, FrameLength, Link, Memory, Seed, Workers}
use Rattle.mirrord_commands.specs.declared.faults.Failure.{Failure}
use Rattle.mirrord_commands.specs.declared.faults.Failure.TheVariants.{Stopped, NoFolder, NoSocket}

-- the failure with which a session ended, and the link's cause if the link broke
abbrev pub failure_of : SessionEnd → Option Fault → Option Failure
failure_of (end.Closed rest) cause = None
failure_of end.Destroyed cause = None
failure_of (end.BadLength len) cause = Some (Stopped (FrameLength len))
failure_of end.LinkBroken cause = Some (Stopped (unwrap_or cause Link))
failure_of end.Memory cause = Some (Stopped Memory)
failure_of end.NoWorkers cause = Some (Stopped Workers)

-- the failure with which serving a folder ended
abbrev pub failure_after : Result SessionEnd Unserved → (root path : Bor (List ℕ)) → Option Failure
failure_after (Ok over) root path = failure_of over None
failure_after (Err unserved.NoFolder) root path = Some (NoFolder root)
failure_after (Err unserved.NoDescriptors) root path = Some (Stopped Descriptors)
failure_after (Err unserved.NoSeed) root path = Some (Stopped Seed)
failure_after (Err unserved.NoSocket) root path = Some (NoSocket path)
failure_after (Err unserved.Memory) root path = Some (Stopped Memory)

-- the exit status of a program
abbrev pub exit_of : Option Failure → ℕ
exit_of None = 0
exit_of (Some failure) = status_of failure

-- Without a failure nothing is written, and otherwise one line, if the writer takes it.
abbrev pub Tells : Option Failure → (told : Bool) → Option (List ℕ) → Option (List ℕ) → Type 0
Tells None told old new = (told ≡ true) × Keeps old new
Tells (Some failure) told old new = told ≡ true → Appends old new (line_of failure)
