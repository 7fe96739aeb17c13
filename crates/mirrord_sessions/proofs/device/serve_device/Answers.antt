use Rattle.disk_folder.specs.Gives.{claims}
use Rattle.mirrord_sessions.proofs.Devices.{device_served}
use Rattle.mirrord_sessions.proofs.device.serve_device.Goals as goal

pub returns : goal.returns
returns g c =
    device_served (claims g.D.Disk.honest g.D.Disk.tree g.D.Disk.has_set g.D.Disk.has_synced) g.R.ReadRequest.gives g.W.WriteReply.takes c.args.terms c.args.device.requests c.args.device.replies _ _ _ c.serve_alone-over.new.link c.serve_alone-over.result.end
    c.in-Ok.ensures c.in_ok-folder.ensures.new c.serve_alone-over.ensures
