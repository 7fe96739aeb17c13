use Rattle.engine.specs.Serving.{traffic}
use Rattle.mirrord_sessions.specs.Known.{known_calls}
use Rattle.mirrord_sessions.proofs.KnownRuns.{known_served}
use Rattle.mirrord_sessions.proofs.hosting.serve_known.Goals as goal

pub returns : goal.returns
returns g c =
    known_served c.args.terms (traffic g.L.LinkIn.receives g.L.LinkOut.sends) (known_calls g.C.Calls.gives g.C.KnownTree.limit g.C.KnownTree.tree g.C.Calls.faults) g.met.C.KnownTree.known
    c.args.tree c.serve_alone.result.calls c.args.link.now c.serve_alone.result.end c.serve_alone.new.link c.serve_alone.ensures
