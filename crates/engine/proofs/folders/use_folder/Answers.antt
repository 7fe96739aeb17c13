use Rattle.std.proofs.Common.{◌≡◌, ℕ, List, [], ◌∷◌, Option, Some, true, false, refl, sym, ap, subst, ◌∙◌}
use Rattle.std.specs.Prelude.{IfOk, OnErr}
use Rattle.backing.specs.declared.call.Child.{Child}
use Rattle.handles.specs.Calls.{Retire}
use Rattle.handles.specs.Listings.{OpenFolder}
use Rattle.ops.specs.Folders.{IsPaged, names_reply}
use Rattle.ops.specs.Pages.{Paged}
use Rattle.ops.specs.declared.intents.FolderUse.TheVariants.{ReadEntries}
use Rattle.wire.specs.declared.reply.ReplyBody.TheVariants.{Done}
use Rattle.engine.specs.Folders.{ByCalls, IsAnsweredBy, LacksAnswer, PagesOf}
use Rattle.engine.proofs.Lending.{elsewhere, err_map, here, lacks_page, lacks_reply, ok_map, on_err, page_lent, pages_lent, unlent}
use Rattle.engine.proofs.Runs.{chain_one}
use Rattle.engine.proofs.folders.use_folder.Goals as goal

pub returns-in_default-clause-ok : goal.returns-in_default-clause-ok
returns-in_default-clause-ok g c = unlent g.D.Folders.keeps c.args.node c.args.fh c.args.usage c.args.dirs.now c.lend.new.self c.in_default.ensures

pub returns-then-number-node-clause-ok : goal.returns-then-number-node-clause-ok
returns-then-number-node-clause-ok g c =
    let folder = g.D.Lent.Loan.shows c.in-Some.lent in
    elsewhere g.D.Folders.keeps c.args.node c.args.fh c.args.usage folder c.args.dirs.now c.lend.new.self c.in-Some.ensures (g.met.D.Folders.lends c.args.dirs.now c.lend.new.self c.args.fh folder c.in-Some.ensures)
    (λ e. c.if-number-node.true (c.number.ensures ∙ ap (λ (f : OpenFolder). f.number) c.listing.ensures ∙ e))

pub returns-in-ReadNames-clause-ok : goal.returns-in-ReadNames-clause-ok
returns-in-ReadNames-clause-ok g c =
    let folder = g.D.Lent.Loan.shows c.in-Some.lent in
    let lent = g.met.D.Folders.lends c.args.dirs.now c.lend.new.self c.args.fh folder c.in-Some.ensures in
    let same : folder.number ≡ c.args.node = sym (c.number.ensures ∙ ap (λ (f : OpenFolder). f.number) c.listing.ensures) ∙ c.if-number-node.false in
    let body = c.in_ok-body-in-ReadNames.body in
    let told = subst (λ (f : OpenFolder). (page : Option (List Child)) × IsPaged false f.entries c.in-ReadNames.offset c.in-ReadNames.size page × (body ≡ names_reply c.in-ReadNames.offset page)) c.listing-in-ReadNames.ensures c.in_ok-body-in-ReadNames.ensures.ok in
    here g.D.Folders.keeps c.args.node c.args.fh c.args.usage folder [] body c.args.dirs.now c.lend.new.self c.lend.new.self c.in-Some.ensures refl lent same (rw c.in-ReadNames.is (refl, told.0, told.1, told.2))

pub returns-in_err-body-in-ReadNames-clause-err : goal.returns-in_err-body-in-ReadNames-clause-err
returns-in_err-body-in-ReadNames-clause-err g c =
    let folder = g.D.Lent.Loan.shows c.in-Some.lent in
    let lent = g.met.D.Folders.lends c.args.dirs.now c.lend.new.self c.args.fh folder c.in-Some.ensures in
    let same : folder.number ≡ c.args.node = sym (c.number.ensures ∙ ap (λ (f : OpenFolder). f.number) c.listing.ensures) ∙ c.if-number-node.false in
    let told = subst (λ (f : OpenFolder). (run : List Child) × IsPaged false f.entries c.in-ReadNames.offset c.in-ReadNames.size (Some run)) c.listing-in-ReadNames.ensures c.in_err-body-in-ReadNames.ensures.err in
    let meant = names_reply c.in-ReadNames.offset (Some told.0) in
    let used = here g.D.Folders.keeps c.args.node c.args.fh c.args.usage folder [] meant c.args.dirs.now c.lend.new.self c.lend.new.self c.in-Some.ensures refl lent same (rw c.in-ReadNames.is (refl, Some told.0, told.1, refl)) in
    on_err _ (ByCalls g.D.Folders.keeps c.args.dirs.now c.lend.new.self (λ folders. LacksAnswer c.args.node c.args.fh c.args.usage folders))
    (lacks_reply g.D.Folders.keeps c.args.node c.args.fh c.args.usage meant c.args.dirs.now c.lend.new.self tt used)

pub returns-in-ReadEntries-clause-ok : goal.returns-in-ReadEntries-clause-ok
returns-in-ReadEntries-clause-ok g c =
    let folder = g.D.Lent.Loan.shows c.in-Some.lent in
    let lent = g.met.D.Folders.lends c.args.dirs.now c.lend.new.self c.args.fh folder c.in-Some.ensures in
    let same : folder.number ≡ c.args.node = sym (c.number.ensures ∙ ap (λ (f : OpenFolder). f.number) c.listing.ensures) ∙ c.if-number-node.false in
    let offset = c.in-ReadEntries.offset in
    let size = c.in-ReadEntries.size in
    let taken = subst (λ (f : OpenFolder). IfOk c.take_page.result (PagesOf f.entries offset size)) c.listing-in-ReadEntries.ensures c.take_page.ensures.ok in
    rw c.in-ReadEntries.is
    (ok_map c.take_page.result (PagesOf folder.entries offset size) (λ answer. ByCalls g.D.Folders.keeps c.args.dirs.now c.lend.new.self (λ folders. IsAnsweredBy c.args.node c.args.fh (ReadEntries offset size) folders answer))
    (λ answer pages. pages_lent g.D.Folders.keeps c.args.node c.args.fh offset size folder answer c.args.dirs.now c.lend.new.self c.in-Some.ensures lent same pages)
    taken)

pub returns-in-ReadEntries-clause-err : goal.returns-in-ReadEntries-clause-err
returns-in-ReadEntries-clause-err g c =
    let folder = g.D.Lent.Loan.shows c.in-Some.lent in
    let lent = g.met.D.Folders.lends c.args.dirs.now c.lend.new.self c.args.fh folder c.in-Some.ensures in
    let same : folder.number ≡ c.args.node = sym (c.number.ensures ∙ ap (λ (f : OpenFolder). f.number) c.listing.ensures) ∙ c.if-number-node.false in
    let offset = c.in-ReadEntries.offset in
    let size = c.in-ReadEntries.size in
    let taken = subst (λ (f : OpenFolder). OnErr c.take_page.result ((page : Paged) × IsPaged true f.entries offset size (Some page.entries) × (page.from ≡ offset))) c.listing-in-ReadEntries.ensures c.take_page.ensures.err in
    rw c.in-ReadEntries.is
    (err_map c.take_page.result ((page : Paged) × IsPaged true folder.entries offset size (Some page.entries) × (page.from ≡ offset))
    (ByCalls g.D.Folders.keeps c.args.dirs.now c.lend.new.self (λ folders. LacksAnswer c.args.node c.args.fh (ReadEntries offset size) folders))
    (λ (page, paged, from).
    lacks_page g.D.Folders.keeps c.args.node c.args.fh offset size page c.args.dirs.now c.lend.new.self
    (page_lent g.D.Folders.keeps c.args.node c.args.fh offset size folder page c.args.dirs.now c.lend.new.self c.in-Some.ensures lent same paged from))
    taken)

pub returns-in-GiveUp-clause-ok : goal.returns-in-GiveUp-clause-ok
returns-in-GiveUp-clause-ok g c =
    let folder = g.D.Lent.Loan.shows c.in-Some.lent in
    let lent = g.met.D.Folders.lends c.args.dirs.now c.lend.new.self c.args.fh folder c.in-Some.ensures in
    let same : folder.number ≡ c.args.node = sym (c.number.ensures ∙ ap (λ (f : OpenFolder). f.number) c.listing.ensures) ∙ c.if-number-node.false in
    let retires = subst (λ (fh : ℕ). g.D.Folders.keeps c.lend.new.self (Retire fh c.retire.result) c.retire.new.self) (sym lent.bears) c.retire.ensures in
    here g.D.Folders.keeps c.args.node c.args.fh c.args.usage folder (Retire folder.fh c.retire.result ∷ []) c.given_up.result c.args.dirs.now c.lend.new.self c.retire.new.self c.in-Some.ensures
    (chain_one g.D.Folders.keeps c.lend.new.self c.retire.new.self (Retire folder.fh c.retire.result) retires) lent same
    (rw c.in-GiveUp.is (c.retire.result, refl, c.given_up.ensures))

pub returns-clause-ok : goal.returns-clause-ok
returns-clause-ok g c =
    let folder = g.D.Lent.Loan.shows c.in-Some.lent in
    let lent = g.met.D.Folders.lends c.args.dirs.now c.lend.new.self c.args.fh folder c.in-Some.ensures in
    let same : folder.number ≡ c.args.node = sym (c.number.ensures ∙ ap (λ (f : OpenFolder). f.number) c.listing.ensures) ∙ c.if-number-node.false in
    here g.D.Folders.keeps c.args.node c.args.fh c.args.usage folder [] Done c.args.dirs.now c.lend.new.self c.lend.new.self c.in-Some.ensures refl lent same (rw c.in-Sync.is (refl, refl))
