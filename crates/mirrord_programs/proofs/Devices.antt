-- Folders that are served over the kernel's device by several threads.
use Rattle.std.proofs.Common.{ℕ, ◌≡◌, List, replicate, Result, Ok, subst}
use Rattle.backing.specs.Calls.{Asked}
use Rattle.backing.specs.declared.call.Answer.{Answer}
use Rattle.disk_folder.specs.Explained.{Tells}
use Rattle.engine.specs.declared.ends.SessionEnd.{SessionEnd}
use Rattle.engine_streams.specs.Device.{Got, OnDevice, Receives, Sends, unused}
use Rattle.engine_streams.specs.declared.device.DeviceFault.{DeviceFault}
use Rattle.engine_streams.specs.declared.device.NoDevice.{NoDevice}
use Rattle.engine_threads.specs.Served.{behaviours}
use Rattle.mirrord_programs.specs.Workers.{ServesDeviceBy, ServesDeviceWith, ServesFolders}
use Rattle.mirrord_sessions.specs.declared.folder.Unserved.{Unserved}
use Rattle.terms.specs.declared.terms.Terms.{Terms}

-- from the beginning of both links
pub served_over : {C R W : Type 0} (calls : C → Asked → Answer → C → Type 0) (gives : R → Got → R → Type 0) (takes : W → List ℕ → Result ℕ DeviceFault → W → Type 0) (terms : Terms) (workers : ℕ) (folders : List C) (requests : R) (replies : W) (none : NoDevice) (input : OnDevice R NoDevice) (output : OnDevice NoDevice W) (over : SessionEnd)
    → input ≡ unused requests none → output ≡ unused none replies → ServesFolders (behaviours calls (Receives gives) (Sends takes)) terms workers folders input output over
    → ServesDeviceWith calls gives takes terms workers folders requests replies (Ok over)
served_over {R = R} {W = W} calls gives takes terms workers folders requests replies none input output over from to serves =
    let first = subst (λ (link : OnDevice R NoDevice). ServesFolders (behaviours calls (Receives gives) (Sends takes)) terms workers folders link output over) from serves in
    (none, subst (λ (link : OnDevice NoDevice W). ServesFolders (behaviours calls (Receives gives) (Sends takes)) terms workers folders (unused requests none) link over) to first)

-- by folders of which no call has failed
pub served_new : {R W : Type 0} (gives : R → Got → R → Type 0) (takes : W → List ℕ → Result ℕ DeviceFault → W → Type 0) (terms : Terms) (workers count : ℕ) (folders : List ℕ) (requests : R) (replies : W) (ended : Result SessionEnd Unserved)
    → folders ≡ replicate workers 0 → count ≡ workers → ServesDeviceWith Tells gives takes terms count folders requests replies ended
    → ServesDeviceBy gives takes terms workers requests replies ended
served_new gives takes terms workers count folders requests replies ended new counted serves =
    let first = subst (λ (n : ℕ). ServesDeviceWith Tells gives takes terms n folders requests replies ended) counted serves in
    subst (λ (f : List ℕ). ServesDeviceWith Tells gives takes terms workers f requests replies ended) new first
