-- The exit status and the line of a program.
use Rattle.std.specs.Prelude.{ℕ, List, [], ◌∷◌, ◌++◌, codes}
use Rattle.std.specs.Fmt.{decimal}
use Rattle.std.specs.declared.io.ErrorKind.{ErrorKind}
use Rattle.std.specs.declared.io.ErrorKind.TheVariants.{OutOfMemory}
use Rattle.mirrord_commands.specs.declared.faults.Fault.{Fault}
use Rattle.mirrord_commands.specs.declared.faults.Fault.TheVariants.{Descriptors, FrameLength, Line, Link, Memory, Seed, Workers}
use Rattle.mirrord_commands.specs.declared.faults.Failure.{Failure}
use Rattle.mirrord_commands.specs.declared.faults.Failure.TheVariants.{Stopped, NoFolder, NoSocket, NoDevice, Refused}
use Rattle.mirrord_commands.specs.declared.refusals.OptionsRefusal.{OptionsRefusal}
use Rattle.mirrord_commands.specs.declared.refusals.OptionsRefusal.TheVariants as refusals

-- what stops a session where the system fails with an error of that kind
abbrev pub fault_by : ErrorKind → Fault
fault_by OutOfMemory = Memory
fault_by kind = Link

-- the exit status after a failure
abbrev pub status_of : Failure → ℕ
status_of (Stopped (FrameLength len)) = 3
status_of (Stopped (Line line)) = 4
status_of (Stopped Link) = 4
status_of (Stopped Memory) = 4
status_of (Stopped Descriptors) = 4
status_of (Stopped Seed) = 4
status_of (Stopped Workers) = 4
status_of (NoFolder root) = 4
status_of (NoSocket path) = 4
status_of NoDevice = 2
status_of (Refused refusal) = 2

-- its words
abbrev pub fault_message : Fault → List ℕ
fault_message (FrameLength len) = codes "frame length " ++ decimal len ++ codes " is not between 40 and 69632"
fault_message (Line line) = codes "line " ++ decimal line ++ codes " is not hexadecimal"
fault_message Link = codes "the link failed"
fault_message Memory = codes "out of memory"
fault_message Descriptors = codes "/proc/self/fd cannot be used"
fault_message Seed = codes "no random seed"
fault_message Workers = codes "1 to 4 workers can serve"

abbrev pub refusal_message : OptionsRefusal → List ℕ
refusal_message refusals.Attributes = codes "--attributes is fixed or host"
refusal_message refusals.Kinds = codes "--kinds is files or all"
refusal_message refusals.Names = codes "--names is text or bytes"
refusal_message refusals.Counts = codes "--counts is bounded or free"
refusal_message refusals.Owner = codes "with --attributes host there is no --uid and no --gid"
refusal_message refusals.Number = codes "a number is written in digits, without a minus sign"
refusal_message refusals.Workers = codes "--workers is 1 to 4"

abbrev pub message : Failure → List ℕ
message (Stopped fault) = fault_message fault
message (NoFolder root) = root.now ++ codes " is not a folder"
message (NoSocket path) = codes "cannot listen on " ++ path.now
message NoDevice = codes "standard input is not a character device"
message (Refused refusal) = refusal_message refusal

-- the one line on standard error
abbrev pub line_of : Failure → List ℕ
line_of failure = codes "mirrord: " ++ message failure ++ 10 ∷ []
