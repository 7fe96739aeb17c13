use Rattle.std.proofs.Common.{List, IfSome, subst, vec_len}
use Rattle.table_shared.specs.Histories.{Made}
use Rattle.terms.specs.declared.limits.Limits.{Limits}
use Rattle.engine_threads.specs.Served.{behaviours, served_with, HasServed}
use Rattle.mirrord_programs.proofs.Threads.{endpoints_of, served_by}
use Rattle.mirrord_programs.proofs.workers.serve_workers.Goals as goal

pub returns : goal.returns
returns g c =
    let e = c.serve_threads in
    let by = behaviours g.C.Calls.gives g.I.LinkIn.receives g.O.LinkOut.sends in
    served_by by c.args.terms (vec_len c.args.folders) (record { link_in = c.args.link_in; link_out = c.args.link_out; calls = c.args.folders }) e.result.back e.result.account e.result.end e.ensures.only e.ensures.unserved e.ensures.end
    (subst (λ (l : Limits). IfSome e.result.account (λ a. ∥ ((history : List Made) × HasServed by l c.args.terms.settings a.passed a.sums.totals (served_with c.args.link_in c.args.link_out c.args.folders.items) (endpoints_of e.result.back) history) ∥₁)) c.limits.ensures.limits e.ensures.served)
