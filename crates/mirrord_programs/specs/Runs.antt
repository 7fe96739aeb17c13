-- Whole runs of the programs.
use Rattle.std.specs.Prelude.{ℕ, ◌≡◌, ◌⊎◌, Bool, true, false, List, [], Option, Some, None, Result}
use Rattle.std.specs.Borrow.{Bor}
use Rattle.clap.specs.Words.{IsAmong, Text, fault_of as refusals_of, subcommand_of, takes}
use Rattle.clap.specs.declared.error.kind.ErrorKind.{ErrorKind}
use Rattle.clap.specs.declared.error.kind.ErrorKind.TheVariants.{OutOfMemory}
use Rattle.disk_folder.specs.Gives.{Claims}
use Rattle.engine.specs.declared.ends.SessionEnd.{SessionEnd}
use Rattle.engine_streams.specs.declared.device.DeviceFault.{DeviceFault}
use Rattle.engine_streams.specs.Device.{Got}
use Rattle.engine_streams.specs.declared.device.Device.{Device}
use Rattle.mirrord_sessions.specs.Folders.{ServesDevice, ServesSocket}
use Rattle.mirrord_sessions.specs.declared.folder.Unserved.{Unserved}
use Rattle.terms.specs.declared.terms.Terms.{Terms}
use Rattle.mirrord_programs.specs.Workers.{ServesDeviceBy, ServesWorkers}
use Rattle.mirrord_commands.specs.declared.faults.Failure.TheVariants.{NoDevice}
use Rattle.mirrord_commands.specs.Faults.{status_of}
use Rattle.mirrord_commands.specs.CommandLine.{mirrord_app, IsAsked}
use Rattle.mirrord_commands.specs.declared.options.Options.{Options}
use Rattle.mirrord_commands.specs.declared.options.Options.TheVariants as options
use Rattle.mirrord_sessions.specs.Ends.{Tells}
use Rattle.mirrord_sessions.specs.Runs.{IsEnded, IsRefusedBy, IsUnserved, RunsPipe, RunsSeeded}
use Rattle.mirrord_programs.specs.declared.folders.Serving.{Serving}

-- ---- the program `serve`

-- with one thread a folder of the disk, or with several one of Linux
abbrev pub ServesBy : {D : Type 0} → Claims D → Serving → Terms → Result SessionEnd Unserved → Type 0
ServesBy disk threads terms ended = (threads.single ≡ true → ServesSocket disk terms ended) × (threads.single ≡ false → ServesWorkers terms threads.workers ended)

-- A folder is served over a socket.
pub record RunsServe {D : Type 0} (disk : Claims D) (root path : Bor Text) (threads : Serving) (terms : Terms) (faults faults' : Option (List ℕ)) (status : ℕ) (told : Bool) : Type 0 where
  pub ended : Result SessionEnd Unserved
  pub serves : ServesBy disk threads terms ended
  pub ends : IsEnded ended root path faults faults' status told

-- ---- the program `device`

-- what the kernel's device may answer to a read, and to a write of a reply; and what the disk claims
pub record Outside (R W D : Type 0) : Type 1 where
  pub gives : R → Got → R → Type 0
  pub takes : W → List ℕ → Result ℕ DeviceFault → W → Type 0
  pub disk : Claims D

abbrev pub outside : {R W D : Type 0} → (R → Got → R → Type 0) → (W → List ℕ → Result ℕ DeviceFault → W → Type 0) → Claims D → Outside R W D
outside gives takes disk = record { gives = gives; takes = takes; disk = disk }

-- with one thread a folder of the disk, or with several one of Linux
abbrev pub ServesKernel : {R W D : Type 0} → Outside R W D → Serving → Terms → Device R W → Result SessionEnd Unserved → Type 0
ServesKernel by threads terms device ended =
    (threads.single ≡ true → ServesDevice by.disk by.gives by.takes terms device.requests device.replies ended)
    × (threads.single ≡ false → ServesDeviceBy by.gives by.takes terms threads.workers device.requests device.replies ended)

-- A folder is served over the device.
pub record IsKernelServed {R W D : Type 0} (by : Outside R W D) (root : Bor Text) (threads : Serving) (terms : Terms) (device : Device R W) (faults faults' : Option (List ℕ)) (status : ℕ) (told : Bool) : Type 0 where
  pub ended : Result SessionEnd Unserved
  pub serves : ServesKernel by threads terms device ended
  pub path : Bor Text
  pub ends : IsEnded ended root path faults faults' status told

-- The same if the device is open as standard input; otherwise the program refuses.
abbrev pub RunsDevice : {R W D : Type 0} → Outside R W D → (root : Bor Text) → Serving → Terms → Option (Device R W) → (faults faults' : Option (List ℕ)) → (status : ℕ) → (told : Bool) → Type 0
RunsDevice by root threads terms (Some device) faults faults' status told = IsKernelServed by root threads terms device faults faults' status told
RunsDevice by root threads terms None faults faults' status told = (status ≡ status_of NoDevice) × Tells (Some NoDevice) told faults faults'

-- ---- from the command line

-- why clap refuses a command line: one of the kinds of error that it has for those words, or out of memory. Words that
-- it accepts are refused only for lack of memory.
pub record IsRefused (words : List Text) (kind : ErrorKind) : Type 0 where
  pub among : (kind ≡ OutOfMemory) ⊎ IsAmong kind (refusals_of mirrord_app words)
  pub memory : takes mirrord_app words ≡ true → kind ≡ OutOfMemory

-- the program that was asked for
abbrev pub RunsAsked : {R W D : Type 0} → Outside R W D → Options → Option (Device R W) → (input output output' faults faults' : Option (List ℕ)) → (status : ℕ) → (told : Bool) → Type 0
RunsAsked by (options.Serve root socket workers single terms) device input output output' faults faults' status told =
    RunsServe by.disk root socket (record { workers = workers; single = single }) terms faults faults' status told × (output' ≡ output)
RunsAsked by (options.Device root workers single terms) device input output output' faults faults' status told =
    RunsDevice by root (record { workers = workers; single = single }) terms device faults faults' status told × (output' ≡ output)
RunsAsked by (options.Pipe root terms) device input output output' faults faults' status told = RunsPipe by.disk root terms input output output' faults faults' status told
RunsAsked by (options.Refused refusal) device input output output' faults faults' status told = IsRefusedBy refusal output output' faults faults' status told
RunsAsked by (options.Hex sample kinds postings) device input output output' faults faults' status told = RunsSeeded (record { sample = sample; kinds = kinds; postings = postings }) input output output' faults faults' status told

-- The program does what the words ask for if clap accepts them. Otherwise, or if memory is refused, it ends as a
-- refusal does.
abbrev pub RunsWords : {R W D : Type 0} → Outside R W D → List Text → Option (Device R W) → (input output output' faults faults' : Option (List ℕ)) → (status : ℕ) → (told : Bool) → Type 0
RunsWords by words device input output output' faults faults' status told =
    ((refusals_of mirrord_app words ≡ []) × ((options : Options) × IsAsked (subcommand_of mirrord_app words) options × RunsAsked by options device input output output' faults faults' status told))
    ⊎ ((kind : ErrorKind) × IsRefused words kind × IsUnserved kind output output' faults faults' status told)
