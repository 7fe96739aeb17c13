use Rattle.engine.specs.Reference.{begun_with}
use Rattle.engine.specs.Walks.{by_rules, with_table}
use Rattle.engine.proofs.Endings.{concluded_short}
use Rattle.engine.proofs.requests.Session.end_without_script.Goals as goal

pub returns-clause-concludes : goal.returns-clause-concludes
returns-clause-concludes g c page looks =
    concluded_short (by_rules g.R.Reach.steps c.args.self.now.settings g.L.Outlet.sends) (begun_with c.args.request page c.args.ticket) c.finish-answered.result (with_table c.args.link.now (g.R.Reach.world c.args.table.now)) (with_table c.refuse.new.link (g.R.Reach.world c.settle.new.self))
    (g.R.Reach.world c.finish-answered.new.self) c.refuse.result looks c.finish-answered.ensures.finishes c.refuse.ensures c.settle.ensures.settles
