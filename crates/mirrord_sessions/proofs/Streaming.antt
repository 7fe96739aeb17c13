-- A folder that is served over a stream.
use Rattle.std.proofs.Common.{ℕ, ◌≡◌, Bool, List, [], Option, inl, inr, subst}
use Rattle.disk_folder.specs.Gives.{Claims, Gives}
use Rattle.engine.specs.Serving.{events_of, traffic}
use Rattle.engine.specs.declared.ends.SessionEnd.{SessionEnd}
use Rattle.terms.specs.declared.terms.Terms.{Terms}
use Rattle.mirrord_sessions.specs.Folders.{IsFolderServed, ServesOn, ServesStream}
use Rattle.mirrord_sessions.specs.Sessions.{ServesLink}
use Rattle.mirrord_sessions.proofs.LinkedRuns.{served_on}
use Rattle.engine_streams.proofs.Passed.{breaks_last, heard_first, written}
use Rattle.engine_streams.specs.Streams.{Streaming, Receives, Sends, unused}

stream_served : {D : Type 0} (disk : Claims D) (terms : Terms) (first left : D × ℕ × Bool) (old : Streaming) (over : SessionEnd) (new : Streaming) → ServesOn disk terms (traffic Receives Sends) first left old over new → ServesStream disk terms first left old over new
stream_served disk terms first left old over new (inl on) =
    let client = on.served.run.client in
    let wrote = written old new (events_of client.steps) client.passes (breaks_last [] client.steps client.kept client.paces) in
    inl (record { on = on; heard = heard_first old new client.steps client.passes; part = wrote.0; written = wrote.1 })
stream_served disk terms first left old over new (inr none) = inr none

-- from its beginning to the writer that is returned
pub folder_served : {D : Type 0} (disk : Claims D) (terms : Terms) (first left : D × ℕ × Bool) (input output output' : Option (List ℕ)) (begun last : Streaming) (over : SessionEnd)
    → begun ≡ unused input output → ServesLink terms (traffic Receives Sends) (Gives disk) first left begun over last → output' ≡ last.output
    → IsFolderServed disk terms first left input output over output'
folder_served disk terms first left input output output' begun last over is serves handed =
    let served = subst (λ (link : Streaming). ServesLink terms (traffic Receives Sends) (Gives disk) first left link over last) is serves in
    let on = served_on disk terms (traffic Receives Sends) first left (unused input output) over last served in
    record { last = last; serves = stream_served disk terms first left (unused input output) over last on; output_is = handed }
