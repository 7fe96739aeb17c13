use Rattle.std.proofs.lemmas.Result.{IfOk-weaker}
use Rattle.table_files.specs.OpenEntry.{files_of}
use Rattle.tree.specs.Places.{at_in}
use Rattle.table_footprints.specs.Gatherings.{IsClosing}
use Rattle.table_footprints.proofs.Pathless.{closing_nothing, closing_path}
use Rattle.table_footprints.proofs.closing.closing_reservation.Goals as goal

pub returns-in-Ok-clause-ok : goal.returns-in-Ok-clause-ok
returns-in-Ok-clause-ok c =
    closing_path (at_in c.args.tree.now) (files_of c.args.files.now).at c.args.number c.is_last-last.result c.in-Ok.reservation c.is_last-last.ensures c.in-Ok.ensures.ok

pub returns-then-is_without_path-clause-ok : goal.returns-then-is_without_path-clause-ok
returns-then-is_without_path-clause-ok c =
    let at = at_in c.args.tree.now in
    let files = (files_of c.args.files.now).at in
    let none = c.in-Err.ensures.err (c.is_without_path.ensures.0 c.if-is_without_path.true) in
    IfOk-weaker c.nothing.result _ (IsClosing at files c.args.number) (λ t nothing. closing_nothing at files c.args.number t nothing none) c.nothing.ensures.ok
