use Rattle.std.proofs.Common.{[], Err, refl, subst, sym}
use Rattle.handles.specs.Listings.{IsMade}
use Rattle.handles.specs.declared.listing.ListingFault.{ListingFault}
use Rattle.ops.specs.Scripts.{plan_of, End, Follows}
use Rattle.engine.specs.Walks.{begun_of, by_rules, with_table, Concludes}
use Rattle.engine.proofs.Endings.{lawful_end, lawless_end}
use Rattle.engine.proofs.requests.Session.finish_opendir.Goals as goal

pub returns-in-Err-Lawless-clause-concludes : goal.returns-in-Err-Lawless-clause-concludes
returns-in-Err-Lawless-clause-concludes g c =
    let arm = c.in-Err-Lawless in
    let end = lawless_end c.args.children (subst (λ (f : ListingFault). IsMade c.args.begun.request.node c.args.children (Err f)) arm.field-0-is arm.ensures) in
    record {
      folders = [];
      chain = refl;
      so = λ made follows.
          subst (λ (e : End). Concludes (by_rules g.R.Reach.steps c.args.self.now.settings g.L.Outlet.sends) (begun_of c.args.begun) made e [] (with_table c.args.link.now (g.R.Reach.world c.args.table.now)) c.finish_and_reply.result (with_table c.finish_and_reply.new.link (g.R.Reach.world c.finish_and_reply.new.table))) end
          (c.finish_and_reply.ensures.concludes made (subst (λ (e : End). Follows (plan_of c.args.self.now.settings c.args.begun.request.caller c.args.begun.request.operation c.args.begun.ticket) made e) (sym end) follows));
    }

pub returns-in-Err-Memory-clause-concludes : goal.returns-in-Err-Memory-clause-concludes
returns-in-Err-Memory-clause-concludes g c =
    let arm = c.in-Err-Memory in
    let made_is = subst (λ (f : ListingFault). IsMade c.args.begun.request.node c.args.children (Err f)) arm.field-0-is arm.ensures in
    let end = lawful_end c.args.children made_is in
    record {
      folders = [];
      chain = refl;
      so = λ made follows.
          subst (λ (e : End). Concludes (by_rules g.R.Reach.steps c.args.self.now.settings g.L.Outlet.sends) (begun_of c.args.begun) made e [] (with_table c.args.link.now (g.R.Reach.world c.args.table.now)) c.end_without_memory.result (with_table c.end_without_memory.new.link (g.R.Reach.world c.end_without_memory.new.table))) end
          (c.end_without_memory.ensures.concludes made c.args.children made_is (subst (λ (e : End). Follows (plan_of c.args.self.now.settings c.args.begun.request.caller c.args.begun.request.operation c.args.begun.ticket) made e) (sym end) follows));
    }
