-- Sessions from a folder of a disk.
use Rattle.std.specs.Prelude.{ℕ, ◌≡◌, ◌≢◌, ◌⊎◌, ◌++◌, Bool, false, List, take, Option, None, Result, Ok, Err}
use Rattle.std.specs.Io.KnownBytes.{Appends, Consumes}
use Rattle.backing.specs.Tree.{Tree}
use Rattle.disk_folder.specs.Gives.{Claims, Gives, IsNew}
use Rattle.engine.specs.Serving.{events_of, heard_of, traffic, Traffic}
use Rattle.engine.specs.declared.ends.SessionEnd.{SessionEnd}
use Rattle.terms.specs.declared.terms.Terms.{Terms}
use Rattle.engine_streams.specs.Device as device
use Rattle.engine_streams.specs.declared.device.DeviceFault.{DeviceFault}
use Rattle.engine_streams.specs.Device.{Got, OnDevice}
use Rattle.engine_streams.specs.Passing.{broken_in, taken_in}
use Rattle.engine_streams.specs.Streams.{Streaming, Receives, Sends, unused}
use Rattle.mirrord_sessions.specs.Linked.{KnownUntil, before_link}
use Rattle.mirrord_sessions.specs.Sessions.{calls_made, IsRefused, IsServed}
use Rattle.mirrord_sessions.specs.declared.folder.Unserved.{Unserved}
use Rattle.mirrord_sessions.specs.declared.folder.Unserved.TheVariants.{NoSocket}

-- what stands below a folder of a disk, and how many of its calls have failed
abbrev pub tree_in : {D : Type 0} → Claims D → D × ℕ × Bool → Tree
tree_in disk folder = disk.tree folder.0

abbrev pub failures_of : {D : Type 0} → D × ℕ × Bool → ℕ
failures_of folder = folder.1

-- A session whose calls are those of a folder of any disk. Where the disk is honest, and had granted no LINK, all of them before the
-- first LINK that it grants are calls on the tree that stands in the folder, one after another, with the failures of the disk as inputs;
-- each is counted, and nothing else is. From where they led that LINK and the rest are calls of the folder (`Gives`).
pub record IsServedOn {L D : Type 0} (disk : Claims D) (terms : Terms) (link : Traffic L) (first left : D × ℕ × Bool) (old : L) (over : SessionEnd) (new : L) : Type 0 where
  pub served : IsServed terms link (Gives disk) first left old over new
  pub known : disk.honest → first.2 ≡ false → KnownUntil (Gives disk) None (tree_in disk) failures_of first (before_link (calls_made served)) (calls_made served) left

-- the same, unless memory for a table was refused
abbrev pub ServesOn : {L D : Type 0} → Claims D → Terms → Traffic L → (first left : D × ℕ × Bool) → (old : L) → SessionEnd → (new : L) → Type 0
ServesOn disk terms link first left old over new = IsServedOn disk terms link first left old over new ⊎ IsRefused first left old over new

-- A folder is served over a stream. What is received are the first bytes of its reader. Its writer is given the replies
-- that were taken, one after another, then some first part of one that broke the link, if one did, and nothing else.
pub record IsStreamServed {D : Type 0} (disk : Claims D) (terms : Terms) (first left : D × ℕ × Bool) (old : Streaming) (over : SessionEnd) (new : Streaming) : Type 0 where
  pub on : IsServedOn disk terms (traffic Receives Sends) first left old over new
  pub heard : Consumes old.input new.input (heard_of on.served.run.client.steps)
  pub part : ℕ
  pub written : Appends old.output new.output (taken_in (events_of on.served.run.client.steps) ++ take part (broken_in (events_of on.served.run.client.steps)))

-- the same, unless memory for a table was refused
abbrev pub ServesStream : {D : Type 0} → Claims D → Terms → (first left : D × ℕ × Bool) → (old : Streaming) → SessionEnd → (new : Streaming) → Type 0
ServesStream disk terms first left old over new = IsStreamServed disk terms first left old over new ⊎ IsRefused first left old over new

-- in terms of the bytes that the reader had, and those that the writer has before and after, if they are known
pub record IsFolderServed {D : Type 0} (disk : Claims D) (terms : Terms) (first left : D × ℕ × Bool) (input output : Option (List ℕ)) (over : SessionEnd) (output' : Option (List ℕ)) : Type 0 where
  pub last : Streaming
  pub serves : ServesStream disk terms first left (unused input output) over last
  pub output_is : output' ≡ last.output

-- A folder of the disk of which no call has failed, and that granted no LINK, is served so.
pub record IsNewServed {D : Type 0} (disk : Claims D) (terms : Terms) (input output : Option (List ℕ)) (over : SessionEnd) (output' : Option (List ℕ)) : Type 0 where
  pub first : D × ℕ × Bool
  pub new : IsNew first
  pub left : D × ℕ × Bool
  pub served : IsFolderServed disk terms first left input output over output'

-- the same, or nothing is written
abbrev pub ServesFolder : {D : Type 0} → Claims D → Terms → (input output : Option (List ℕ)) → Result SessionEnd Unserved → (output' : Option (List ℕ)) → Type 0
ServesFolder disk terms input output (Ok over) output' = IsNewServed disk terms input output over output'
ServesFolder disk terms input output (Err why) output' = (why ≢ NoSocket) × (output' ≡ output)

-- Of the bytes that a socket has left, and of those that it was given, no contract knows any. Of memory, and of a stream
-- that is empty, a contract knows all (`Some`).
abbrev pub in_socket : Option (List ℕ)
in_socket = None

-- the same over the stream of a socket
abbrev pub ServesSocket : {D : Type 0} → Claims D → Terms → Result SessionEnd Unserved → Type 0
ServesSocket disk terms (Ok over) = IsNewServed disk terms in_socket in_socket over in_socket
ServesSocket disk terms (Err why) = Unit {0}

-- A folder of which no call has failed, and that granted no LINK, is served over the kernel's device, from which nothing was read before.
pub record IsDeviceServed {D R W : Type 0} (disk : Claims D) (gives : R → Got → R → Type 0) (takes : W → List ℕ → Result ℕ DeviceFault → W → Type 0) (terms : Terms) (requests : R) (replies : W) (over : SessionEnd) : Type 0 where
  pub first : D × ℕ × Bool
  pub new : IsNew first
  pub left : D × ℕ × Bool
  pub last : OnDevice R W
  pub serves : ServesOn disk terms (traffic (device.Receives gives) (device.Sends takes)) first left (device.unused requests replies) over last

-- the same, or there was no session
abbrev pub ServesDevice : {D R W : Type 0} → Claims D → (R → Got → R → Type 0) → (W → List ℕ → Result ℕ DeviceFault → W → Type 0) → Terms → R → W → Result SessionEnd Unserved → Type 0
ServesDevice disk gives takes terms requests replies (Ok over) = IsDeviceServed disk gives takes terms requests replies over
ServesDevice disk gives takes terms requests replies (Err why) = why ≢ NoSocket
