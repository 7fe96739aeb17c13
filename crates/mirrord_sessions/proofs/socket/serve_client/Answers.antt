use Rattle.std.proofs.Common.{ℕ, List, Option, subst}
use Rattle.disk_folder.specs.Gives.{claims}
use Rattle.mirrord_sessions.specs.Folders.{in_socket, IsFolderServed}
use Rattle.mirrord_sessions.proofs.Sockets.{behind_buffer}
use Rattle.mirrord_sessions.proofs.socket.serve_client.Goals as goal

pub returns : goal.returns
returns g c =
    let disk = claims g.D.Disk.honest g.D.Disk.tree g.D.Disk.has_set g.D.Disk.has_synced in
    let over = c.serve_opened-over.result in
    let served = subst (λ (input : Option (List ℕ)). IsFolderServed disk c.args.terms c.args.folder over.folder input in_socket over.end in_socket) (behind_buffer c.in-Ok.input) c.serve_opened-over.ensures in
    record { first = c.args.folder; new = c.requires; left = over.folder; served = served }
