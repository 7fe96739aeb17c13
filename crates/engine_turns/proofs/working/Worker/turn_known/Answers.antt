use Rattle.engine.proofs.KnownRuns.{known_run}
use Rattle.engine_turns.proofs.working.Worker.turn_known.Goals as goal

pub returns-clause-worked : goal.returns-clause-worked
returns-clause-worked g c settled e =
    let w = c.turn.ensures.worked settled e in
    record {
      worked = w;
      run = known_run g.C.Calls.gives g.C.KnownTree.limit g.C.KnownTree.tree g.C.Calls.faults g.met.C.KnownTree.known c.args.served.now.calls c.turn.new.served.calls w.answers.meets.turn.made w.answers.meets.draws.makes;
    }
