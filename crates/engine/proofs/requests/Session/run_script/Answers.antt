use Rattle.std.proofs.Common.{[], refl, subst, sym}
use Rattle.ops.specs.Ahead.{end_of}
use Rattle.ops.specs.Pages.{Paged}
use Rattle.ops.specs.Scripts.{Plan, Follows, listed_end, plan_of}
use Rattle.ops.specs.declared.findings.ScriptResult.{ScriptResult}
use Rattle.ops.specs.declared.findings.ScriptResult.TheVariants.{Bytes}
use Rattle.engine.specs.Reference.{begun_with}
use Rattle.engine.specs.Serving.{Makes, around, does}
use Rattle.engine.specs.Walks.{by_rules, entries_found, no_memory, page_in, RunsScript}
use Rattle.engine.proofs.requests.Session.run_script.Goals as goal

pub returns-in-Err-clause-runs : goal.returns-in-Err-clause-runs
returns-in-Err-clause-runs g c = record {
  made = [];
  end = no_memory;
  makes = refl;
  concludes = record { folders = []; chain = refl; so = c.end_without_script.ensures.concludes (page_in c.args.attempt.source) c.in-Err.ensures.err };
}

pub returns-in-Listed-clause-runs : goal.returns-in-Listed-clause-runs
returns-in-Listed-clause-runs g c =
    let played = c.play-found.ensures in
    let plan = plan_of c.args.self.now.settings c.args.attempt.request.caller c.args.attempt.request.operation c.args.ticket in
    let follows = subst (λ (p : Plan). Follows p played.made (end_of c.play-found.result)) c.in-Ok.ensures.ok played.follows in
    let found = subst (λ (f : ScriptResult). Follows plan played.made (end_of f)) c.in-Listed.is follows in
    subst (λ (page : Paged). RunsScript (by_rules g.R.Reach.steps c.args.self.now.settings g.L.Outlet.sends) (does g.C.Calls.gives g.D.Folders.keeps) (begun_with c.args.attempt.request page c.args.ticket) (around c.args.link.now c.args.served.now (g.R.Reach.world c.args.table.now)) c.finish_opendir.result (around c.finish_opendir.new.link (record { calls = c.play-found.new.calls; dirs = c.finish_opendir.new.dirs }) (g.R.Reach.world c.finish_opendir.new.table))) c.page-page.ensures
    (record {
      made = played.made;
      end = listed_end c.in-Listed.children;
      makes = played.makes;
      concludes = record { folders = c.finish_opendir.ensures.concludes.folders; chain = c.finish_opendir.ensures.concludes.chain; so = c.finish_opendir.ensures.concludes.so played.made found };
    })

pub returns-in-Looked-clause-runs : goal.returns-in-Looked-clause-runs
returns-in-Looked-clause-runs g c =
    let played = c.play-found.ensures in
    let plan = plan_of c.args.self.now.settings c.args.attempt.request.caller c.args.attempt.request.operation c.args.ticket in
    let follows = subst (λ (p : Plan). Follows p played.made (end_of c.play-found.result)) c.in-Ok.ensures.ok played.follows in
    let found = subst (λ (f : ScriptResult). Follows plan played.made (end_of f)) c.in-Looked.is follows in
    subst (λ (page : Paged). RunsScript (by_rules g.R.Reach.steps c.args.self.now.settings g.L.Outlet.sends) (does g.C.Calls.gives g.D.Folders.keeps) (begun_with c.args.attempt.request page c.args.ticket) (around c.args.link.now c.args.served.now (g.R.Reach.world c.args.table.now)) c.tell_entries.result (around c.tell_entries.new.link (record { calls = c.play-found.new.calls; dirs = c.args.served.now.dirs }) (g.R.Reach.world c.tell_entries.new.table))) c.page-page.ensures
    (record {
      made = played.made;
      end = entries_found c.in-Looked.looked;
      makes = played.makes;
      concludes = record { folders = []; chain = refl; so = c.tell_entries.ensures.concludes played.made found };
    })

pub returns-in-Bytes-clause-runs : goal.returns-in-Bytes-clause-runs
returns-in-Bytes-clause-runs g c =
    let played = c.play-found.ensures in
    let plan = plan_of c.args.self.now.settings c.args.attempt.request.caller c.args.attempt.request.operation c.args.ticket in
    let follows = subst (λ (p : Plan). Follows p played.made (end_of c.play-found.result)) c.in-Ok.ensures.ok played.follows in
    let found = subst (λ (f : ScriptResult). Follows plan played.made (end_of f)) c.in-Bytes.is follows in
    subst (λ (page : Paged). RunsScript (by_rules g.R.Reach.steps c.args.self.now.settings g.L.Outlet.sends) (does g.C.Calls.gives g.D.Folders.keeps) (begun_with c.args.attempt.request page c.args.ticket) (around c.args.link.now c.args.served.now (g.R.Reach.world c.args.table.now)) c.finish_and_reply-sent.result (around c.finish_and_reply-sent.new.link (record { calls = c.offer_room.new.self; dirs = c.args.served.now.dirs }) (g.R.Reach.world c.finish_and_reply-sent.new.table))) c.page-page.ensures
    (record {
      made = played.made;
      end = end_of (Bytes c.in-Bytes.bytes);
      makes = subst (λ (calls : g.row.C.Denot). Makes g.C.Calls.gives c.args.served.now.calls played.made calls) (sym c.offer_room.ensures) played.makes;
      concludes = record { folders = []; chain = refl; so = c.finish_and_reply-sent.ensures.concludes played.made found };
    })

pub returns-in_default-clause-runs : goal.returns-in_default-clause-runs
returns-in_default-clause-runs g c =
    let played = c.play-found.ensures in
    let plan = plan_of c.args.self.now.settings c.args.attempt.request.caller c.args.attempt.request.operation c.args.ticket in
    let follows = subst (λ (p : Plan). Follows p played.made (end_of c.play-found.result)) c.in-Ok.ensures.ok played.follows in
    subst (λ (page : Paged). RunsScript (by_rules g.R.Reach.steps c.args.self.now.settings g.L.Outlet.sends) (does g.C.Calls.gives g.D.Folders.keeps) (begun_with c.args.attempt.request page c.args.ticket) (around c.args.link.now c.args.served.now (g.R.Reach.world c.args.table.now)) c.finish_and_reply.result (around c.finish_and_reply.new.link (record { calls = c.play-found.new.calls; dirs = c.args.served.now.dirs }) (g.R.Reach.world c.finish_and_reply.new.table))) c.page-page.ensures
    (record {
      made = played.made;
      end = end_of c.play-found.result;
      makes = played.makes;
      concludes = record { folders = []; chain = refl; so = c.finish_and_reply.ensures.concludes played.made follows };
    })
