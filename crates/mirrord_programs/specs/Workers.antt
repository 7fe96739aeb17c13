-- Serving a folder of the system with several threads.
use Rattle.std.specs.Prelude.{ℕ, ◌<◌, ◌≡◌, ◌≢◌, ◌⊎◌, List, [], replicate, Some, None, Result, Ok, Err}
use Rattle.disk_folder.specs.Explained.{Tells}
use Rattle.backing.specs.Calls.{Asked}
use Rattle.backing.specs.declared.call.Answer.{Answer}
use Rattle.table_shared.specs.Histories.{Made}
use Rattle.engine.specs.declared.ends.SessionEnd.{SessionEnd}
use Rattle.engine.specs.declared.ends.SessionEnd.TheVariants as end
use Rattle.engine_streams.specs.Device as device
use Rattle.engine_streams.specs.declared.device.DeviceFault.{DeviceFault}
use Rattle.engine_streams.specs.Device.{Got, OnDevice}
use Rattle.engine_streams.specs.Streams.{Streaming, Receives, Sends, unused}
use Rattle.engine_streams.specs.declared.device.NoDevice.{NoDevice}
use Rattle.engine_threads.specs.Ended.{EndsAs}
use Rattle.engine_threads.specs.Served.{behaviours, served_with, Behaviours, Endpoints, HasServed}
use Rattle.engine_threads.specs.declared.ended.Account.{Account}
use Rattle.terms.specs.Limits.{limits_of}
use Rattle.mirrord_sessions.specs.Folders.{in_socket}
use Rattle.mirrord_sessions.specs.declared.folder.Unserved.{Unserved}
use Rattle.mirrord_sessions.specs.declared.folder.Unserved.TheVariants.{NoSocket}
use Rattle.terms.specs.declared.terms.Terms.{Terms}

-- Each of these folders is served by one thread: the jobs are what one link receives, the replies are offered to the other link, one
-- history has all calls on the table, and these links and folders are left.
pub record AreServed {I O C : Type 0} (by : Behaviours I O C) (terms : Terms) (given : Endpoints I O C) (over : SessionEnd) (back : Endpoints I O C) : Type 0 where
  pub account : Account
  pub served : ∥ ((history : List Made) × HasServed by (limits_of terms.bounds) terms.settings account.passed account.sums.totals given back history) ∥₁
  pub ends : EndsAs account.passed.input account.passed.is_broken over

-- what was given comes back as it was, since memory was refused, or their number is not from 1 to 4
pub record AreUnserved {I O C : Type 0} (workers : ℕ) (given : Endpoints I O C) (over : SessionEnd) (back : Endpoints I O C) : Type 0 where
  pub why : (over ≡ end.Memory) ⊎ ((over ≡ end.NoWorkers) × ((workers ≡ 0) ⊎ (4 < workers)))
  pub back_is : back ≡ given

-- these folders, which are that many, are served over these links, or nothing is done
abbrev pub ServesFolders : {I O C : Type 0} → Behaviours I O C → Terms → (workers : ℕ) → List C → I → O → SessionEnd → Type 0
ServesFolders {I} {O} {C} by terms workers folders input output over =
    (back : Endpoints I O C) × (AreServed by terms (served_with input output folders) over back ⊎ AreUnserved workers (served_with input output folders) over back)

-- the link over which a client sends: what it reads comes from a socket; no contract knows what its sink is given
abbrev pub from_socket : Streaming
from_socket = unused in_socket None

-- the link over which it gets its replies: it has nothing to read, and writes to a socket
abbrev pub to_socket : Streaming
to_socket = unused (Some []) in_socket

-- folders whose calls give that are served over the streams of a socket, or there was no session
abbrev pub ServesSocketWith : {C : Type 0} → (C → Asked → Answer → C → Type 0) → Terms → (workers : ℕ) → List C → Result SessionEnd Unserved → Type 0
ServesSocketWith calls terms workers folders (Ok over) = ServesFolders (behaviours calls Receives Sends) terms workers folders from_socket to_socket over
ServesSocketWith calls terms workers folders (Err why) = Unit {0}

-- that many folders of Linux, of which no call has failed
abbrev pub ServesWorkers : Terms → (workers : ℕ) → Result SessionEnd Unserved → Type 0
ServesWorkers terms workers ended = ServesSocketWith Tells terms workers (replicate workers 0) ended

-- Folders whose calls give that are served over the kernel's device, from which nothing was read before: one link has the requests, and
-- the other the replies.
abbrev pub ServesDeviceWith : {C R W : Type 0} → (C → Asked → Answer → C → Type 0) → (R → Got → R → Type 0) → (W → List ℕ → Result ℕ DeviceFault → W → Type 0) → Terms → (workers : ℕ) → List C → R → W → Result SessionEnd Unserved → Type 0
ServesDeviceWith calls gives takes terms workers folders requests replies (Ok over) =
    (none : NoDevice) × ServesFolders (behaviours calls (device.Receives gives) (device.Sends takes)) terms workers folders (device.unused requests none) (device.unused none replies) over
ServesDeviceWith calls gives takes terms workers folders requests replies (Err why) = why ≢ NoSocket

-- that many folders of Linux, of which no call has failed
abbrev pub ServesDeviceBy : {R W : Type 0} → (R → Got → R → Type 0) → (W → List ℕ → Result ℕ DeviceFault → W → Type 0) → Terms → (workers : ℕ) → R → W → Result SessionEnd Unserved → Type 0
ServesDeviceBy gives takes terms workers requests replies ended = ServesDeviceWith Tells gives takes terms workers (replicate workers 0) requests replies ended
