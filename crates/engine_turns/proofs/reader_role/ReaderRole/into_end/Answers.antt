use Rattle.std.proofs.Common.{◌≡◌, Option, sym, ap, subst}
use Rattle.std.specs.Option.{option_map}
use Rattle.crossbeam_channel.specs.Claims.{view}
use Rattle.engine.specs.declared.ends.SessionEnd.{SessionEnd}
use Rattle.engine_turns.specs.declared.job.Job.{Job}
use Rattle.engine_queues.specs.declared.jobs.Hand.{Hand}
use Rattle.engine_turns.specs.Shown.{progress, queued_of, shown}
use Rattle.engine_turns.specs.Reads.{HasReadAll}
use Rattle.engine_turns.proofs.HasRead.{has_ended}
use Rattle.engine_turns.proofs.reader_role.ReaderRole.into_end.Goals as goal

pub returns-clause-read : goal.returns-clause-read
returns-clause-read g c =
    let s = c.args.self in
    let r = c.new.result in
    let same = c.new.ensures.same in
    subst (λ (end : Option SessionEnd). ∥ HasReadAll g.I.LinkIn.receives g.S.Source.heard_from end (queued_of (view r.pass).put) (option_map shown r.last_job) s.link ∥₁) (sym same.1)
    (has_ended g.I.LinkIn.receives g.S.Source.heard_from s.link (progress s.reader) s.end (queued_of (view r.pass).put) (option_map shown r.last_job)
    (ap (λ (v : Hand Job). queued_of v.put) same.0) (ap (λ (o : Option Job). option_map shown o) same.2) (ap (λ (o : Option Job). option_map shown o) s.none_back) s.read)
