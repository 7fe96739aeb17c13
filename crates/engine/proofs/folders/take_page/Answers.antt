use Rattle.std.proofs.Common.{◌≡◌, true, Some, refl}
use Rattle.ops.specs.Folders.{IsPaged}
use Rattle.ops.specs.Pages.{Paged}
use Rattle.engine.proofs.Lending.{on_err}
use Rattle.engine.proofs.folders.take_page.Goals as goal

pub returns-in_err-copy_of-in-Ok-clause-err : goal.returns-in_err-copy_of-in-Ok-clause-err
returns-in_err-copy_of-in-Ok-clause-err c =
    let page : Paged = record { from = c.args.offset; entries = c.in-Ok.page.entries.now } in
    on_err c.from_residual.result ((page : Paged) × IsPaged true c.args.listing.now.entries c.args.offset c.args.size (Some page.entries) × (page.from ≡ c.args.offset))
    (page, (c.in-Ok.ensures.1, c.in-Ok.ensures.2), refl)
