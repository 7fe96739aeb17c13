use Rattle.mirrord_programs.proofs.Sockets.{served_between}
use Rattle.mirrord_programs.proofs.workers_socket.serve_client.Goals as goal

pub returns : goal.returns
returns g c =
    served_between g.C.Calls.gives c.args.terms _ c.args.folders.items _ _ c.serve_workers.result c.link_from-link_in.ensures c.link_to-link_out.ensures c.serve_workers.ensures
