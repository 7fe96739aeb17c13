use Rattle.std.proofs.Common.{inl, inr, refl, subst}
use Rattle.engine.specs.Folders.{ByCalls, IsAnsweredBy}
use Rattle.engine.specs.Serving.{around, does}
use Rattle.engine.specs.Walks.{by_rules}
use Rattle.engine.specs.declared.folders.FolderAnswer.{FolderAnswer}
use Rattle.engine.proofs.Turns.{lacking}
use Rattle.engine.proofs.requests.Session.use_folder.Goals as goal

pub returns-in-Ok-Reply-clause-used : goal.returns-in-Ok-Reply-clause-used
returns-in-Ok-Reply-clause-used g c =
    let used = subst (λ (what : FolderAnswer). ByCalls g.D.Folders.keeps c.args.served.now.dirs c.use_folder.new.dirs (λ folders. IsAnsweredBy c.args.asked.request.node c.args.asked.fh c.args.asked.usage folders what)) c.in-Ok-Reply.field-0-is c.in-Ok-Reply.ensures.ok in
    inl (record { meant = c.in-Ok-Reply.body; uses = used; told = c.answer.ensures.said; calls_are = refl; world_is = refl })

pub returns-in-Ok-Page-clause-used : goal.returns-in-Ok-Page-clause-used
returns-in-Ok-Page-clause-used g c =
    let lent = subst (λ (what : FolderAnswer). ByCalls g.D.Folders.keeps c.args.served.now.dirs c.use_folder.new.dirs (λ folders. IsAnsweredBy c.args.asked.request.node c.args.asked.fh c.args.asked.usage folders what)) c.in-Ok-Page.field-0-is c.in-Ok-Page.ensures.ok in
    inr (record { page = c.in-Ok-Page.page; lent = c.use_folder.new.dirs; lends = lent; runs = c.run.ensures.runs_out lent.folders })

pub returns-in-Err-clause-used : goal.returns-in-Err-clause-used
returns-in-Err-clause-used g c =
    let lacks = c.in-Err.ensures.err in
    lacking (by_rules g.R.Reach.steps c.args.self.now.settings g.L.Outlet.sends) (does g.C.Calls.gives g.D.Folders.keeps) c.args.asked.request c.args.asked.fh c.args.asked.usage (around c.args.link.now c.args.served.now (g.R.Reach.world c.args.table.now))
    c.use_folder.new.dirs c.refuse.new.link c.refuse.result lacks.folders lacks.chain lacks.so c.refuse.ensures
