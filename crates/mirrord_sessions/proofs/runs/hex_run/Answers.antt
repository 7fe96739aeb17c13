use Rattle.std.proofs.Common.{Option, ap, ◌∙◌, subst}
use Rattle.mirrord_sessions.specs.Lines.{Hexing}
use Rattle.mirrord_sessions.specs.Ends.{Tells, exit_of, failure_of}
use Rattle.mirrord_sessions.specs.Runs.{ServesHex}
use Rattle.mirrord_commands.specs.declared.faults.Failure.{Failure}
use Rattle.mirrord_sessions.proofs.runs.hex_run.Goals as goal

pub returns : goal.returns
returns g c =
    let failure = c.failure_of-failure.ensures ∙ ap (failure_of c.serve_new-end.result) c.cause.ensures in
    record {
      over = c.serve_new-end.result;
      last = c.serve_new-end.new.link;
      serves = subst (λ (link : Hexing). ServesHex c.args.served link c.serve_new-end.result c.serve_new-end.new.link) c.new-link.ensures c.serve_new-end.ensures;
      output_is = c.into_writer.ensures;
      status_is = c.status_after.ensures ∙ ap exit_of failure;
      tells = subst (λ (f : Option Failure). Tells f c.tell_any-told.result (g.F.Write.contents c.args.faults.now) (g.F.Write.contents c.tell_any-told.new.faults)) failure c.tell_any-told.ensures;
    }
