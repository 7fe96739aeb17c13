use Rattle.std.proofs.Common.{subst}
use Rattle.table_steps.specs.declared.data.Outcome.{Outcome}
use Rattle.engine.specs.Walks.{begun_of, by_rules, page_of, with_table}
use Rattle.engine.proofs.Endings.{concluded_plain}
use Rattle.engine.proofs.requests.Session.finish_and_reply.Goals as goal

pub returns-clause-concludes : goal.returns-clause-concludes
returns-clause-concludes g c made follows =
    concluded_plain (by_rules g.R.Reach.steps c.args.self.now.settings g.L.Outlet.sends) (begun_of c.args.begun) made c.args.found c.reply_to-body.result c.finish-answered.result
    (with_table c.args.link.now (g.R.Reach.world c.args.table.now)) (with_table c.settle.new.link (g.R.Reach.world c.settle.new.table)) (g.R.Reach.world c.finish-answered.new.self) c.settle.result.sent c.settle.result.taken c.requires.plain follows
    (subst (λ (o : Outcome). g.R.Reach.steps.finishes (g.R.Reach.world c.args.table.now) c.args.begun.ticket.id o c.finish-answered.result (g.R.Reach.world c.finish-answered.new.self)) c.outcome.ensures c.finish-answered.ensures.finishes)
    (c.reply_to-body.ensures (page_of c.args.begun.page)) c.settle.ensures.replies c.settle.ensures.settles
