-- Folders that are served over a socket by several threads.
use Rattle.std.proofs.Common.{ℕ, ◌≡◌, List, replicate, Result, Ok, subst}
use Rattle.backing.specs.Calls.{Asked}
use Rattle.backing.specs.declared.call.Answer.{Answer}
use Rattle.disk_folder.specs.Explained.{Tells}
use Rattle.engine.specs.declared.ends.SessionEnd.{SessionEnd}
use Rattle.engine_streams.specs.Streams.{Streaming, Receives, Sends}
use Rattle.engine_threads.specs.Served.{behaviours}
use Rattle.mirrord_programs.specs.Workers.{from_socket, to_socket, ServesFolders, ServesSocketWith, ServesWorkers}
use Rattle.mirrord_sessions.specs.declared.folder.Unserved.{Unserved}
use Rattle.terms.specs.declared.terms.Terms.{Terms}

-- from the beginning of both links
pub served_between : {C : Type 0} (calls : C → Asked → Answer → C → Type 0) (terms : Terms) (workers : ℕ) (folders : List C) (input output : Streaming) (over : SessionEnd)
    → input ≡ from_socket → output ≡ to_socket → ServesFolders (behaviours calls Receives Sends) terms workers folders input output over
    → ServesSocketWith calls terms workers folders (Ok over)
served_between calls terms workers folders input output over from to serves =
    let first = subst (λ (link : Streaming). ServesFolders (behaviours calls Receives Sends) terms workers folders link output over) from serves in
    subst (λ (link : Streaming). ServesFolders (behaviours calls Receives Sends) terms workers folders from_socket link over) to first

-- by folders of which no call has failed
pub served_new : (terms : Terms) (workers count : ℕ) (folders : List ℕ) (ended : Result SessionEnd Unserved)
    → folders ≡ replicate workers 0 → count ≡ workers → ServesSocketWith Tells terms count folders ended → ServesWorkers terms workers ended
served_new terms workers count folders ended new counted serves =
    let first = subst (λ (n : ℕ). ServesSocketWith Tells terms n folders ended) counted serves in
    subst (λ (f : List ℕ). ServesSocketWith Tells terms workers f ended) new first
