use Rattle.mirrord_programs.proofs.Devices.{served_new}
use Rattle.mirrord_programs.proofs.workers_device.serve_device_by.Goals as goal

pub returns : goal.returns
returns g c =
    served_new g.R.ReadRequest.gives g.W.WriteReply.takes c.args.terms c.args.workers _ c.in_ok-folders.folders.items c.args.device.requests c.args.device.replies c.serve_seeded.result c.in_ok-folders.ensures.unused c.in_ok-folders.ensures.len c.serve_seeded.ensures
