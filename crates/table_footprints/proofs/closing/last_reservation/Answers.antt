use Rattle.std.proofs.Common.{rules}
use Rattle.std.proofs.lemmas.Result.{err_from_is_err_and}
use Rattle.tree.specs.Places.{at_in}
use Rattle.table_footprints.proofs.Lasting.{last_agreed}
use Rattle.table_footprints.proofs.Pathless.{no_fault}
use Rattle.table_footprints.proofs.closing.last_reservation.Goals as goal

pub returns-in_err-path-clause-err : goal.returns-in_err-path-clause-err
returns-in_err-path-clause-err c =
    let p = err_from_is_err_and c.from_residual.result c.from_residual.ensures.1 in
    rw (p.1, p.2) (no_fault (at_in c.args.tree.now) c.path.ensures.tree c.args.number c.in_err-path.field-0.0 c.in_err-path.ensures.err)

pub returns-clause-ok : goal.returns-clause-ok
returns-clause-ok c =
    last_agreed (at_in c.args.tree.now) c.path.ensures.tree c.args.number c.in_ok-path.path c.in_ok-path.ensures.ok.0 _ c.in_ok-path.ensures.ok.1 (search rules) (search rules) c.in_ok-held.ensures (search rules) (search rules) (search rules) (search rules)
