-- A folder that is served over the kernel's device.
use Rattle.std.proofs.Common.{ℕ, ◌≡◌, Bool, List, Result, subst}
use Rattle.disk_folder.specs.Gives.{Claims, Gives as FolderGives, IsNew}
use Rattle.engine.specs.Serving.{traffic}
use Rattle.engine.specs.declared.ends.SessionEnd.{SessionEnd}
use Rattle.engine_streams.specs.Device.{Got, OnDevice, Receives, Sends, unused}
use Rattle.engine_streams.specs.declared.device.DeviceFault.{DeviceFault}
use Rattle.mirrord_sessions.specs.Folders.{IsDeviceServed}
use Rattle.mirrord_sessions.specs.Sessions.{ServesLink}
use Rattle.mirrord_sessions.proofs.LinkedRuns.{served_on}
use Rattle.terms.specs.declared.terms.Terms.{Terms}

-- from its beginning
pub device_served : {D R W : Type 0} (disk : Claims D) (gives : R → Got → R → Type 0) (takes : W → List ℕ → Result ℕ DeviceFault → W → Type 0) (terms : Terms) (requests : R) (replies : W) (first left : D × ℕ × Bool) (begun last : OnDevice R W) (over : SessionEnd)
    → begun ≡ unused requests replies → IsNew first → ServesLink terms (traffic (Receives gives) (Sends takes)) (FolderGives disk) first left begun over last
    → IsDeviceServed disk gives takes terms requests replies over
device_served {R = R} {W = W} disk gives takes terms requests replies first left begun last over is new serves =
    let served = subst (λ (link : OnDevice R W). ServesLink terms (traffic (Receives gives) (Sends takes)) (FolderGives disk) first left link over last) is serves in
    record { first = first; new = new; left = left; last = last; serves = served_on disk terms (traffic (Receives gives) (Sends takes)) first left (unused requests replies) over last served }
