-- How a program ends that serves a folder.
use Rattle.std.proofs.Common.{ℕ, ◌≡◌, Bool, true, false, true≢false, List, Option, Some, Result, ap, sym, ◌∙◌, subst}
use Rattle.std.specs.Borrow.{Bor}
use Rattle.clap.specs.Words.{Text}
use Rattle.engine.specs.declared.ends.SessionEnd.{SessionEnd}
use Rattle.engine_streams.specs.declared.device.Device.{Device}
use Rattle.terms.specs.declared.terms.Terms.{Terms}
use Rattle.mirrord_programs.specs.Runs.{IsKernelServed, Outside, RunsDevice}
use Rattle.mirrord_programs.specs.declared.folders.Serving.{Serving}
use Rattle.mirrord_commands.specs.declared.faults.Failure.{Failure}
use Rattle.mirrord_sessions.specs.Ends.{exit_of, failure_after, Tells}
use Rattle.mirrord_sessions.specs.Runs.{IsEnded}
use Rattle.mirrord_sessions.specs.declared.folder.Unserved.{Unserved}

pub ended_so : (ended : Result SessionEnd Unserved) (root path : Bor Text) (failure : Option Failure) (faults faults' : Option (List ℕ)) (status : ℕ) (told : Bool)
    → failure ≡ failure_after ended root path → status ≡ exit_of failure → Tells failure told faults faults' → IsEnded ended root path faults faults' status told
ended_so ended root path failure faults faults' status told is status_is tells =
    (status_is ∙ ap exit_of is, subst (λ (f : Option Failure). Tells f told faults faults') is tells)

-- with one thread, or with several
pub one_alone : (single : Bool) (one many : Type 0) → single ≡ true → one → (single ≡ true → one) × (single ≡ false → many)
one_alone single one many is it = (λ _. it, λ other. absurd (true≢false (sym is ∙ other)))

pub many_alone : (single : Bool) (one many : Type 0) → single ≡ false → many → (single ≡ true → one) × (single ≡ false → many)
many_alone single one many is it = (λ other. absurd (true≢false (sym other ∙ is)), λ _. it)

-- the device that is open as standard input
pub device_runs : {R W D : Type 0} (by : Outside R W D) (root : Bor Text) (threads : Serving) (terms : Terms) (device : Option (Device R W)) (given : Device R W) (faults faults' : Option (List ℕ)) (status : ℕ) (told : Bool)
    → device ≡ Some given → IsKernelServed by root threads terms given faults faults' status told → RunsDevice by root threads terms device faults faults' status told
device_runs {R = R} {W = W} by root threads terms device given faults faults' status told is served =
    subst (λ (d : Option (Device R W)). RunsDevice by root threads terms d faults faults' status told) (sym is) served
