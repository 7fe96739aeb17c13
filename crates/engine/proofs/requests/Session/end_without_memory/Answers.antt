use Rattle.engine.specs.Walks.{begun_of, by_rules, with_table}
use Rattle.engine.proofs.Endings.{concluded_starved}
use Rattle.engine.proofs.requests.Session.end_without_memory.Goals as goal

pub returns-clause-concludes : goal.returns-clause-concludes
returns-clause-concludes g c made children lawful follows =
    concluded_starved (by_rules g.R.Reach.steps c.args.self.now.settings g.L.Outlet.sends) (begun_of c.args.begun) made children c.finish-answered.result (with_table c.args.link.now (g.R.Reach.world c.args.table.now)) (with_table c.refuse.new.link (g.R.Reach.world c.settle.new.self))
    (g.R.Reach.world c.finish-answered.new.self) c.refuse.result lawful follows c.finish-answered.ensures.finishes c.refuse.ensures c.settle.ensures.settles
