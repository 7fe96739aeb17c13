use Rattle.engine.specs.Serving.{around, does}
use Rattle.engine.specs.Walks.{attempt_of, by_rules, page_in, want_in}
use Rattle.engine.proofs.Waiting.{runs_after, unbegun_after}
use Rattle.engine.proofs.requests.Session.run.Goals as goal

pub returns-in-Err-clause-runs_out : goal.returns-in-Err-clause-runs_out
returns-in-Err-clause-runs_out g c lends =
    unbegun_after (by_rules g.R.Reach.steps c.args.self.now.settings g.L.Outlet.sends) (does g.C.Calls.gives g.D.Folders.keeps) (attempt_of c.args.attempt lends)
    (around c.args.link.now c.args.served.now (g.R.Reach.world c.args.table.now)) (around c.loop.link c.loop.served (g.R.Reach.world c.loop.table)) c.refuse.new.link c.refuse.result c.in-Err.ensures.err c.loop.invariant.untouched c.refuse.ensures

pub returns-in-Some-run_request-clause-runs_out : goal.returns-in-Some-run_request-clause-runs_out
returns-in-Some-run_request-clause-runs_out g c lends =
    runs_after g.R.Reach.steps g.L.Outlet.sends (does g.C.Calls.gives g.D.Folders.keeps) c.args.self.now.settings c.loop.self.settings c.args.attempt.request (want_in c.args.attempt.request.node c.args.attempt.source) c.in-Ok.want lends (page_in c.args.attempt.source)
    (around c.args.link.now c.args.served.now (g.R.Reach.world c.args.table.now)) (around c.loop.link c.loop.served (g.R.Reach.world c.loop.table)) (around c.run_request.new.link c.run_request.new.served (g.R.Reach.world c.run_request.new.table)) c.in-Some-run_request.sent
    c.loop.invariant.keeps.terms.settings c.in-Ok.ensures.ok c.loop.invariant.untouched (c.in-Some-run_request.ensures.some lends)
