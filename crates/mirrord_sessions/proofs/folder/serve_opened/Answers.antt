use Rattle.disk_folder.specs.Gives.{claims}
use Rattle.mirrord_sessions.proofs.Streaming.{folder_served}
use Rattle.mirrord_sessions.proofs.folder.serve_opened.Goals as goal

pub returns : goal.returns
returns g c =
    folder_served (claims g.D.Disk.honest g.D.Disk.tree g.D.Disk.has_set g.D.Disk.has_synced) c.args.terms c.args.folder c.serve_alone-end.result.calls _ _ _ _ c.serve_alone-end.new.link c.serve_alone-end.result.end
    c.new-link.ensures c.serve_alone-end.ensures c.into_writer.ensures
