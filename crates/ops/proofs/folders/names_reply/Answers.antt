use Rattle.std.proofs.Common.{◌≡◌, ◌≤◌, ℕ, Some, List, sym, ap, subst, ◌∙◌, length, arith}
use Rattle.wire.specs.declared.reply.ReplyBody.TheVariants.{Data}
use Rattle.ops.specs.Folders.{names_bytes}
use Rattle.payload.specs.declared.TheConstants.{HEADER_ROOM}
use Rattle.ops.proofs.Told.{behind_room, length-names}
use Rattle.ops.proofs.folders.names_reply.Goals as goal

pub returns-clause-ok : goal.returns-clause-ok
returns-clause-ok c =
    let run = c.in-Ok.page.entries.now in
    let page = c.in-Ok.ensures in
    let bytes : c.behind.result ≡ names_bytes c.in-Ok.page.from run = c.behind.ensures ∙ behind_room c.in_ok-names.names.items c.put_names.new.out.items (names_bytes c.in-Ok.page.from run) HEADER_ROOM c.in_ok-names.ensures c.in_ok-put_names.ensures in
    (Some run, (page.1, page.2), ap Data (bytes ∙ ap (λ (at : ℕ). names_bytes at run) page.0))

pub returns-clause-short : goal.returns-clause-short
returns-clause-short c =
    let run = c.in-Ok.page.entries.now in
    let bytes : c.behind.result ≡ names_bytes c.in-Ok.page.from run = c.behind.ensures ∙ behind_room c.in_ok-names.names.items c.put_names.new.out.items (names_bytes c.in-Ok.page.from run) HEADER_ROOM c.in_ok-names.ensures c.in_ok-put_names.ensures in
    subst (λ (d : List ℕ). length d ≤ c.args.size) (sym bytes) (omega (arith, length-names c.in-Ok.page.from run, c.in-Ok.ensures.1.fits))
