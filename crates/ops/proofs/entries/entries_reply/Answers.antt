use Rattle.std.proofs.Common.{◌≡◌, ◌≤◌, ℕ, List, true, length, sym, ap, subst, ◌∙◌, arith}
use Rattle.handles.specs.Pages.{bytes_of}
use Rattle.payload.specs.declared.TheConstants.{HEADER_ROOM}
use Rattle.wire.specs.declared.reply.ReplyBody.TheVariants.{Data}
use Rattle.ops.specs.Pages.{Paged}
use Rattle.ops.specs.Replies.{entries_bytes}
use Rattle.ops.proofs.Told.{behind_room, length-entries}
use Rattle.ops.proofs.entries.entries_reply.Goals as goal

pub returns-clause-ok : goal.returns-clause-ok
returns-clause-ok c =
    let all = entries_bytes c.args.settings c.page.inside.from c.page.inside.entries.items c.args.founds.now c.args.givens.now in
    let bytes : c.behind.result ≡ all = c.behind.ensures ∙ behind_room c.in_ok-entries.entries.items c.put_entries.new.out.items all HEADER_ROOM c.in_ok-entries.ensures (search (c.in_ok-put_entries.ensures, c.deref-2.ensures.value)) in
    ap Data bytes ∙ ap (λ (p : Paged). Data (entries_bytes c.args.settings p.from p.entries c.args.founds.now c.args.givens.now)) c.page.view_is

pub returns-clause-short : goal.returns-clause-short
returns-clause-short c =
    let entries = c.page.inside.entries.items in
    let all = entries_bytes c.args.settings c.page.inside.from entries c.args.founds.now c.args.givens.now in
    let bytes : c.behind.result ≡ all = c.behind.ensures ∙ behind_room c.in_ok-entries.entries.items c.put_entries.new.out.items all HEADER_ROOM c.in_ok-entries.ensures (search (c.in_ok-put_entries.ensures, c.deref-2.ensures.value)) in
    subst (λ (p : Paged). length c.behind.result ≤ bytes_of true p.entries) c.page.view_is
    (subst (λ (d : List ℕ). length d ≤ bytes_of true entries) (sym bytes) (omega (arith, length-entries c.args.settings c.page.inside.from entries c.args.founds.now c.args.givens.now)))
