use Rattle.std.proofs.Common.{◌≡◌, ◌+◌, length, subst, arith}
use Rattle.terms.specs.declared.settings.Settings.{Settings}
use Rattle.engine_threads.specs.Served.{HasRun, behaviours, served_with}
use Rattle.engine_threads.specs.Worked.{did}
use Rattle.engine_threads.proofs.Lists.{none_never}
use Rattle.engine_threads.proofs.serving.serve_opened.Goals as goal

pub returns-in-Ok-serve_prepared-clause-unserved : goal.returns-in-Ok-serve_prepared-clause-unserved
returns-in-Ok-serve_prepared-clause-unserved g c = none_never _ c.conclude.result.account c.conclude.ensures.account

pub returns-in-Ok-serve_prepared-clause-served : goal.returns-in-Ok-serve_prepared-clause-served
returns-in-Ok-serve_prepared-clause-served g c =
    let given = c.args.given in
    let over = c.in-Ok-serve_prepared.over in
    let threads : g.N.Opening.threads ≡ length given.calls.items + 1 = (let x = c.requires.threads in let y = given.calls.ok.0 in omega arith) in
    let ran = subst (λ (t : Settings). HasRun (behaviours g.C.Calls.gives g.I.LinkIn.receives g.O.LinkOut.sends) t (did over.closed.table.log) over.passed (served_with given.link_in given.link_out given.calls.items) (served_with over.link_in over.link_out over.calls.items)) c.in-Some.ensures.settings c.in-Ok-serve_prepared.ensures.ran in
    c.conclude.ensures.served c.args.opening.1 given.link_in given.link_out given.calls.items threads ran
