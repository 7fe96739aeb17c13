use Rattle.std.proofs.lemmas.Result.{err_from_is_err_and}
use Rattle.tree.specs.Places.{at_in}
use Rattle.table_footprints.proofs.Finding.{node_refused}
use Rattle.table_footprints.proofs.found.find_node.Goals as goal

pub returns-in_err-path-clause-err : goal.returns-in_err-path-clause-err
returns-in_err-path-clause-err c =
    let p = err_from_is_err_and c.from_residual.result c.from_residual.ensures.1 in
    rw (p.1, p.2) (node_refused (at_in c.args.tree.now) c.path.ensures.tree c.args.number c.requires c.in_err-path.field-0.0 c.in_err-path.ensures.err)
