use Rattle.std.proofs.Common.{sym, ◌∙◌}
use Rattle.engine.specs.Serving.{around, does}
use Rattle.engine.specs.Walks.{by_rules, stand}
use Rattle.engine.proofs.ByClass.{greeted, ignored, unexpected, parted}
use Rattle.engine.proofs.requests.Session.handle_frame.Goals as goal

pub returns-in-Ignored-clause-handled : goal.returns-in-Ignored-clause-handled
returns-in-Ignored-clause-handled g c =
    ignored (by_rules g.R.Reach.steps c.args.self.now.settings g.L.Outlet.sends) (does g.C.Calls.gives g.D.Folders.keeps) c.args.arrived.frame.now (around c.args.link.now c.args.served.now (stand (g.R.Reach.world c.args.table.now) c.args.self.now.agreed))
    (sym c.in-Ignored.is ∙ c.requires.class)

pub returns-in-Unexpected-clause-handled : goal.returns-in-Unexpected-clause-handled
returns-in-Unexpected-clause-handled g c =
    unexpected (by_rules g.R.Reach.steps c.args.self.now.settings g.L.Outlet.sends) (does g.C.Calls.gives g.D.Folders.keeps) c.args.arrived.frame.now (around c.args.link.now c.args.served.now (stand (g.R.Reach.world c.args.table.now) c.args.self.now.agreed)) c.refuse.new.link c.refuse.result c.ending.result
    (sym c.in-Unexpected.is ∙ c.requires.class) (rw c.unique_of.ensures at c.refuse.ensures) c.ending.ensures

pub returns-in-InitFrame-clause-handled : goal.returns-in-InitFrame-clause-handled
returns-in-InitFrame-clause-handled g c =
    greeted (by_rules g.R.Reach.steps c.args.self.now.settings g.L.Outlet.sends) (does g.C.Calls.gives g.D.Folders.keeps) c.args.arrived.frame.now (around c.args.link.now c.args.served.now (stand (g.R.Reach.world c.args.table.now) c.args.self.now.agreed))
    c.handle_init.new.link c.handle_init.new.self.agreed c.handle_init.result c.ending-in-InitFrame.result
    (sym c.in-InitFrame.is ∙ c.requires.class) c.handle_init.ensures.handles c.ending-in-InitFrame.ensures

pub returns-in-DestroyFrame-clause-handled : goal.returns-in-DestroyFrame-clause-handled
returns-in-DestroyFrame-clause-handled g c =
    parted (by_rules g.R.Reach.steps c.args.self.now.settings g.L.Outlet.sends) (does g.C.Calls.gives g.D.Folders.keeps) c.args.arrived.frame.now (around c.args.link.now c.args.served.now (stand (g.R.Reach.world c.args.table.now) c.args.self.now.agreed)) c.handle_destroy.new.link c.handle_destroy.result
    (sym c.in-DestroyFrame.is ∙ c.requires.class) c.handle_destroy.ensures
