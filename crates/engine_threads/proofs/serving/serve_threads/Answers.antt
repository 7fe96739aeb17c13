use Rattle.engine_threads.specs.Served.{behaviours, served_with}
use Rattle.engine_threads.proofs.Ends.{never_none}
use Rattle.engine_threads.proofs.Lists.{none_so}
use Rattle.engine_threads.proofs.serving.serve_threads.Goals as goal

pub returns-clause-only : goal.returns-clause-only
returns-clause-only g c none =
    let r = c.serve_table.result in
    let given = c.args.given in
    let e = c.serve_table.ensures in
    absurd (never_none (behaviours g.C.Calls.gives g.I.LinkIn.receives g.O.LinkOut.sends) c.args.limits c.args.settings (served_with given.link_in given.link_out given.calls.items) (served_with r.back.link_in r.back.link_out r.back.calls.items) r.account r.end
    (none_so _ _ r.account e.unserved) e.end e.served none)
