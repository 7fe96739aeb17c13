use Rattle.mirrord_programs.proofs.Ends.{ended_so}
use Rattle.mirrord_programs.proofs.folders.serve_run.Goals as goal

pub returns : goal.returns
returns g c = record {
  ended = c.serve_over_socket-ended.result;
  serves = c.serve_over_socket-ended.ensures;
  ends = ended_so c.serve_over_socket-ended.result _ _ c.failure_after.result _ _ _ _ c.failure_after.ensures c.end_after.ensures.status c.end_after.ensures.tells;
}
