use Rattle.std.proofs.Common.{refl, subst, sym, to_z, of_z, w32}
use Rattle.engine.specs.Serving.{around, does}
use Rattle.engine.specs.Walks.{attempt_with, by_rules}
use Rattle.engine.proofs.Turns.{goes_on, table_refused}
use Rattle.engine.proofs.requests.Session.run_request.Goals as goal

pub returns-in-Go-clause-some : goal.returns-in-Go-clause-some
returns-in-Go-clause-some g c lends =
    let w = g.R.Reach.world c.args.table.now in
    let at = g.R.Reach.world c.begin.new.self in
    let new = around c.run_script.new.link c.run_script.new.served (g.R.Reach.world c.run_script.new.table) in
    let p = c.run_script.ensures.runs in
    let e = p.concludes.so.concluded in
    let kept = g.met.R.Reach.completes w at e.finished (g.R.Reach.world c.run_script.new.table) c.args.attempt.request.unique c.args.want c.in-Go.ticket p.end.outcome e.answer e.put _ c.requires.idle c.in-Go.ensures.begins e.finishes e.settles in
    goes_on (by_rules g.R.Reach.steps c.args.self.now.settings g.L.Outlet.sends) (does g.C.Calls.gives g.D.Folders.keeps) (attempt_with c.args.attempt c.args.want lends) c.in-Go.ticket (around c.args.link.now c.args.served.now w) new
    at c.run_script.result c.in-Go.ensures.begins p kept.0

pub returns-in-Go-clause-idle : goal.returns-in-Go-clause-idle
returns-in-Go-clause-idle g c =
    let w = g.R.Reach.world c.args.table.now in
    let at = g.R.Reach.world c.begin.new.self in
    let new = around c.run_script.new.link c.run_script.new.served (g.R.Reach.world c.run_script.new.table) in
    let p = c.run_script.ensures.runs in
    let e = p.concludes.so.concluded in
    let kept = g.met.R.Reach.completes w at e.finished (g.R.Reach.world c.run_script.new.table) c.args.attempt.request.unique c.args.want c.in-Go.ticket p.end.outcome e.answer e.put _ c.requires.idle c.in-Go.ensures.begins e.finishes e.settles in
    kept.1

pub returns-in-Go-clause-keeps : goal.returns-in-Go-clause-keeps
returns-in-Go-clause-keeps g c = record {
  terms = c.run_script.ensures.keeps.terms;
  gains = g.met.R.Reach.gains_on (g.R.Reach.world c.args.table.now) (g.R.Reach.world c.begin.new.self) (g.R.Reach.world c.run_script.new.table) c.args.share.now c.args.share.now c.run_script.new.share
      (c.begin.ensures.gains c.args.share.now) c.run_script.ensures.keeps.gains;
}

pub returns-in-Refused-clause-some : goal.returns-in-Refused-clause-some
returns-in-Refused-clause-some g c lends =
    let w = g.R.Reach.world c.args.table.now in
    let refused = g.met.R.Reach.refuses w (g.R.Reach.world c.begin.new.self) c.args.attempt.request.unique c.args.want c.in-Refused.errno c.requires.idle c.in-Refused.ensures.begins in
    table_refused (by_rules g.R.Reach.steps c.args.self.now.settings g.L.Outlet.sends) (does g.C.Calls.gives g.D.Folders.keeps) (attempt_with c.args.attempt c.args.want lends) (to_z w32 (of_z w32 c.in-Refused.errno)) (around c.args.link.now c.args.served.now w) c.answer.new.link
    (g.R.Reach.world c.begin.new.self) c.answer.result refused.0 c.answer.ensures.said

pub returns-in-Refused-clause-idle : goal.returns-in-Refused-clause-idle
returns-in-Refused-clause-idle g c =
    let w = g.R.Reach.world c.args.table.now in
    let refused = g.met.R.Reach.refuses w (g.R.Reach.world c.begin.new.self) c.args.attempt.request.unique c.args.want c.in-Refused.errno c.requires.idle c.in-Refused.ensures.begins in
    refused.1

pub returns-in-Refused-clause-keeps : goal.returns-in-Refused-clause-keeps
returns-in-Refused-clause-keeps g c = record { terms = c.answer.ensures.keeps; gains = c.begin.ensures.gains c.args.share.now }

pub returns-in-Busy-clause-none : goal.returns-in-Busy-clause-none
returns-in-Busy-clause-none g c = record {
  link_is = refl;
  served_is = refl;
  world_is = g.met.R.Reach.waits (g.R.Reach.world c.args.table.now) (g.R.Reach.world c.begin.new.self) c.args.attempt.request.unique c.args.want c.requires.idle c.in-Busy.ensures.begins;
}

pub returns-in-Busy-clause-idle : goal.returns-in-Busy-clause-idle
returns-in-Busy-clause-idle g c =
    let w = g.R.Reach.world c.args.table.now in
    subst (λ (v : g.R.Reach.World). g.R.Reach.steps.is_idle v) (sym (g.met.R.Reach.waits w (g.R.Reach.world c.begin.new.self) c.args.attempt.request.unique c.args.want c.requires.idle c.in-Busy.ensures.begins)) c.requires.idle

pub returns-in-Busy-clause-keeps : goal.returns-in-Busy-clause-keeps
returns-in-Busy-clause-keeps g c = record { terms = record { settings = refl; agreed = refl }; gains = c.begin.ensures.gains c.args.share.now }
