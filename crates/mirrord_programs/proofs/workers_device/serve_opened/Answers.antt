use Rattle.mirrord_programs.proofs.Devices.{served_over}
use Rattle.mirrord_programs.proofs.workers_device.serve_opened.Goals as goal

pub returns : goal.returns
returns g c =
    served_over g.C.Calls.gives g.R.ReadRequest.gives g.W.WriteReply.takes c.args.terms _ c.args.folders.items c.args.device.requests c.args.device.replies _ _ _ c.serve_workers.result
    c.in-Ok.ensures c.in-Ok-new.ensures c.serve_workers.ensures
