use Rattle.disk_folder.specs.Gives.{claims}
use Rattle.mirrord_programs.specs.Runs.{outside}
use Rattle.mirrord_programs.proofs.Ends.{device_runs, ended_so}
use Rattle.mirrord_programs.proofs.folders.device_run.Goals as goal

pub returns-in-Some : goal.returns-in-Some
returns-in-Some g c =
    let by = outside g.R.ReadRequest.gives g.W.WriteReply.takes (claims g.D.Disk.honest g.D.Disk.tree g.D.Disk.has_set g.D.Disk.has_synced) in
    device_runs by c.args.served.root c.args.served.threads c.args.served.terms c.args.device c.in-Some.device _ _ _ _ c.in-Some.is (record {
      ended = c.serve_kernel-ended.result;
      serves = c.serve_kernel-ended.ensures;
      path = _;
      ends = ended_so c.serve_kernel-ended.result _ _ c.failure_after.result _ _ _ _ c.failure_after.ensures c.end_after-in-Some.ensures.status c.end_after-in-Some.ensures.tells;
    })
