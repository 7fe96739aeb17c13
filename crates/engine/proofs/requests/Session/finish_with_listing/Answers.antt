use Rattle.std.proofs.Common.{◌∷◌}
use Rattle.handles.specs.Calls.{Put}
use Rattle.engine.specs.Walks.{begun_of, by_rules, with_table}
use Rattle.engine.proofs.Endings.{concluded_open}
use Rattle.engine.proofs.requests.Session.finish_with_listing.Goals as goal

pub returns-clause-concludes : goal.returns-clause-concludes
returns-clause-concludes g c =
    let last = c.give_up.ensures in
    record {
      folders = Put c.args.listing c.put-put.result ∷ last.folders;
      chain = (c.put-put.new.self, c.put-put.ensures, last.chain);
      so = λ made children is_made follows.
          concluded_open (by_rules g.R.Reach.steps c.args.self.now.settings g.L.Outlet.sends) (begun_of c.args.begun) made children c.args.listing c.put-put.result last.folders c.opened_reply-body.result c.finish-answered.result
          (with_table c.args.link.now (g.R.Reach.world c.args.table.now)) (with_table c.settle-settled.new.link (g.R.Reach.world c.settle-settled.new.table)) (g.R.Reach.world c.finish-answered.new.self) c.settle-settled.result.sent c.settle-settled.result.taken
          is_made follows c.finish-answered.ensures.finishes c.opened_reply-body.ensures last.so c.settle-settled.ensures.replies c.settle-settled.ensures.settles;
    }
