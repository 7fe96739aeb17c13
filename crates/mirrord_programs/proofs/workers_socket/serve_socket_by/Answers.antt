use Rattle.mirrord_programs.proofs.Sockets.{served_new}
use Rattle.mirrord_programs.proofs.workers_socket.serve_socket_by.Goals as goal

pub returns : goal.returns
returns g c =
    served_new c.args.terms c.args.workers _ c.in_ok-folders.folders.items c.serve_seeded.result c.in_ok-folders.ensures.unused c.in_ok-folders.ensures.len c.serve_seeded.ensures
