use Rattle.std.proofs.Common.{Bool, Bor, false, List, None, Option, refl, ap, subst, ◌∙◌}
use Rattle.table_requests.specs.declared.data.Given.{Given}
use Rattle.ops.specs.Pages.{Paged}
use Rattle.ops.specs.Replies.{entries_bytes, reply_to}
use Rattle.ops.specs.declared.findings.ScriptResult.TheVariants.{Looked}
use Rattle.ops.specs.declared.findings.FoundFile.{FoundFile}
use Rattle.table_steps.specs.declared.data.Outcome.TheVariants.{Entries}
use Rattle.wire.specs.declared.reply.ReplyBody.TheVariants.{Data}
use Rattle.engine.specs.Walks.{begun_of, by_rules, page_of, with_table}
use Rattle.engine.proofs.Endings.{concluded_entries, paged, starved_untaken}
use Rattle.engine.proofs.requests.Session.tell_entries.Goals as goal

pub returns-in-Ok-clause-concludes : goal.returns-in-Ok-clause-concludes
returns-in-Ok-clause-concludes g c made follows =
    let s = c.args.self.now.settings in
    let page = page_of c.args.begun.page in
    let answered = c.finish-answered.result in
    let finishes = subst (λ (there : List Bool). g.R.Reach.steps.finishes (g.R.Reach.world c.args.table.now) c.args.begun.ticket.id (Entries there) answered (g.R.Reach.world c.finish-answered.new.self)) c.into_parts-there.ensures.there c.finish-answered.ensures.finishes in
    let same = ap (λ (b : Bor Paged). b.now) c.unwrap_or-page.ensures ∙ paged c.args.begun.page _ c.none-empty.ensures in
    let told = c.in-Ok.ensures.ok
    ∙ ap (λ (p : Paged). Data (entries_bytes s p.from p.entries c.deref.result.now c.given.result.now)) same
    ∙ ap (λ (fs : List (Option FoundFile)). Data (entries_bytes s page.from page.entries fs c.given.result.now)) (c.deref.ensures.value ∙ c.into_parts-there.ensures.found)
    ∙ ap (λ (gs : List (Option Given)). Data (entries_bytes s page.from page.entries c.args.looked gs)) c.given.ensures in
    concluded_entries (by_rules g.R.Reach.steps s g.L.Outlet.sends) (begun_of c.args.begun) made c.args.looked c.in-Ok.body answered (with_table c.args.link.now (g.R.Reach.world c.args.table.now)) (with_table c.settle.new.link (g.R.Reach.world c.settle.new.table))
    (g.R.Reach.world c.finish-answered.new.self) c.settle.result.sent c.settle.result.taken follows finishes told c.settle.ensures.replies c.settle.ensures.settles

pub returns-clause-concludes : goal.returns-clause-concludes
returns-clause-concludes g c made follows =
    let s = c.args.self.now.settings in
    let answered = c.finish-answered.result in
    let meant = reply_to s c.args.begun.request.node (page_of c.args.begun.page) (Looked c.args.looked) None answered in
    let finishes = subst (λ (there : List Bool). g.R.Reach.steps.finishes (g.R.Reach.world c.args.table.now) c.args.begun.ticket.id (Entries there) answered (g.R.Reach.world c.finish-answered.new.self)) c.into_parts-there.ensures.there c.finish-answered.ensures.finishes in
    let replies = starved_untaken g.L.Outlet.sends (record { unique = c.args.begun.request.unique; body = meant }) c.args.link.now c.refuse.new.link c.refuse.result tt c.refuse.ensures in
    concluded_entries (by_rules g.R.Reach.steps s g.L.Outlet.sends) (begun_of c.args.begun) made c.args.looked meant answered (with_table c.args.link.now (g.R.Reach.world c.args.table.now)) (with_table c.refuse.new.link (g.R.Reach.world c.settle-in-Err.new.self))
    (g.R.Reach.world c.finish-answered.new.self) c.refuse.result false follows finishes refl replies c.settle-in-Err.ensures.settles
