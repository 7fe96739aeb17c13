use Rattle.std.proofs.Common.{[], ◌∷◌, refl}
use Rattle.wire.specs.Pairs.{pairs_in}
use Rattle.ops.specs.Intents.{want_of}
use Rattle.engine.specs.Serving.{around, does}
use Rattle.engine.specs.Walks.{by_rules}
use Rattle.engine.proofs.Turns.{asked_of_file, carried, fault_answered, forgot, passed_over, said_at_once, used}
use Rattle.engine.proofs.requests.Session.work_off.Goals as goal

pub returns-in-Err-clause-worked : goal.returns-in-Err-clause-worked
returns-in-Err-clause-worked g c =
    fault_answered (by_rules g.R.Reach.steps c.args.self.now.settings g.L.Outlet.sends) (does g.C.Calls.gives g.D.Folders.keeps) c.args.frame.now c.in-Err.fault (around c.args.link.now c.args.served.now (g.R.Reach.world c.args.table.now)) c.refuse_frame.new.link c.refuse_frame.result
    c.in-Err.ensures.fault c.refuse_frame.ensures.some c.refuse_frame.ensures.none

pub returns-in-Reply-clause-worked : goal.returns-in-Reply-clause-worked
returns-in-Reply-clause-worked g c =
    said_at_once (by_rules g.R.Reach.steps c.args.self.now.settings g.L.Outlet.sends) (does g.C.Calls.gives g.D.Folders.keeps) c.args.frame.now c.in-Ok.request c.in-Reply.body (around c.args.link.now c.args.served.now (g.R.Reach.world c.args.table.now)) c.answer.new.link c.answer.result
    c.in-Ok.ensures.found c.in-Reply.ensures c.answer.ensures.said

pub returns-in-Folder-clause-worked : goal.returns-in-Folder-clause-worked
returns-in-Folder-clause-worked g c =
    used (by_rules g.R.Reach.steps c.args.self.now.settings g.L.Outlet.sends) (does g.C.Calls.gives g.D.Folders.keeps) c.args.frame.now c.in-Ok.request c.in-Folder.fh c.in-Folder.usage (around c.args.link.now c.args.served.now (g.R.Reach.world c.args.table.now)) (around c.use_folder.new.link c.use_folder.new.served (g.R.Reach.world c.use_folder.new.table)) c.use_folder.result
    c.in-Ok.ensures.found c.in-Folder.ensures c.use_folder.ensures.used

pub returns-in-Forget-clause-worked : goal.returns-in-Forget-clause-worked
returns-in-Forget-clause-worked g c =
    forgot (by_rules g.R.Reach.steps c.args.self.now.settings g.L.Outlet.sends) (does g.C.Calls.gives g.D.Folders.keeps) c.args.frame.now c.in-Ok.request (c.in-Forget.lookups ∷ []) (around c.args.link.now c.args.served.now (g.R.Reach.world c.args.table.now)) (g.R.Reach.world c.forget.new.self)
    c.in-Ok.ensures.found c.in-Forget.ensures (g.R.Reach.world c.forget.new.self, c.forget.ensures.forgets, refl)

pub returns-in-ForgetAll-clause-worked : goal.returns-in-ForgetAll-clause-worked
returns-in-ForgetAll-clause-worked g c =
    forgot (by_rules g.R.Reach.steps c.args.self.now.settings g.L.Outlet.sends) (does g.C.Calls.gives g.D.Folders.keeps) c.args.frame.now c.in-Ok.request (pairs_in c.in-ForgetAll.pairs.now) (around c.args.link.now c.args.served.now (g.R.Reach.world c.args.table.now)) (g.R.Reach.world c.forget_all.new.table)
    c.in-Ok.ensures.found c.in-ForgetAll.ensures c.forget_all.ensures.forgets

pub returns-in-Nothing-clause-worked : goal.returns-in-Nothing-clause-worked
returns-in-Nothing-clause-worked g c =
    passed_over (by_rules g.R.Reach.steps c.args.self.now.settings g.L.Outlet.sends) (does g.C.Calls.gives g.D.Folders.keeps) c.args.frame.now c.in-Ok.request (around c.args.link.now c.args.served.now (g.R.Reach.world c.args.table.now)) c.in-Ok.ensures.found c.in-Nothing.ensures

pub returns-in-Nothing-clause-keeps : goal.returns-in-Nothing-clause-keeps
returns-in-Nothing-clause-keeps g c = record { terms = record { settings = refl; agreed = refl }; gains = c.attest.ensures c.args.share.now }

pub returns-in-Forget-clause-idle : goal.returns-in-Forget-clause-idle
returns-in-Forget-clause-idle g c =
    g.met.R.Reach.forgets_idle (g.R.Reach.world c.args.table.now) (g.R.Reach.world c.forget.new.self) c.in-Forget.lookups.node c.in-Forget.lookups.nlookup c.requires.idle c.forget.ensures.forgets

pub returns-in-Err-clause-keeps : goal.returns-in-Err-clause-keeps
returns-in-Err-clause-keeps g c = record { terms = record { settings = refl; agreed = refl }; gains = c.attest.ensures c.args.share.now }

pub returns-in-Reply-clause-keeps : goal.returns-in-Reply-clause-keeps
returns-in-Reply-clause-keeps g c = record { terms = c.answer.ensures.keeps; gains = c.attest.ensures c.args.share.now }

pub returns-in-Forget-clause-keeps : goal.returns-in-Forget-clause-keeps
returns-in-Forget-clause-keeps g c = record { terms = record { settings = refl; agreed = refl }; gains = c.forget.ensures.gains }

pub returns-in-File-clause-worked : goal.returns-in-File-clause-worked
returns-in-File-clause-worked g c =
    asked_of_file (by_rules g.R.Reach.steps c.args.self.now.settings g.L.Outlet.sends) (does g.C.Calls.gives g.D.Folders.keeps) c.args.frame.now c.in-Ok.request c.in-File.fh c.find.result c.file_reply-body.result (around c.args.link.now c.args.served.now (g.R.Reach.world c.args.table.now)) (g.R.Reach.world c.find.new.self) c.answer-in-File.new.link c.answer-in-File.result
    c.in-Ok.ensures.found c.in-File.ensures c.find.ensures.finds c.file_reply-body.ensures c.answer-in-File.ensures.said

pub returns-in-File-clause-keeps : goal.returns-in-File-clause-keeps
returns-in-File-clause-keeps g c = record { terms = c.answer-in-File.ensures.keeps; gains = c.find.ensures.gains c.args.share.now }

pub returns-in-File-clause-idle : goal.returns-in-File-clause-idle
returns-in-File-clause-idle g c = g.met.R.Reach.finds_idle (g.R.Reach.world c.args.table.now) (g.R.Reach.world c.find.new.self) c.in-File.fh c.find.result c.requires.idle c.find.ensures.finds

pub returns-in-Want-clause-worked : goal.returns-in-Want-clause-worked
returns-in-Want-clause-worked g c =
    carried (by_rules g.R.Reach.steps c.args.self.now.settings g.L.Outlet.sends) (does g.C.Calls.gives g.D.Folders.keeps) c.args.frame.now c.in-Ok.request (want_of c.in-Want.wanted) (around c.args.link.now c.args.served.now (g.R.Reach.world c.args.table.now)) (around c.run.new.link c.run.new.served (g.R.Reach.world c.run.new.table)) c.run.result
    c.in-Ok.ensures.found c.in-Want.ensures (c.run.ensures.runs_out [])
