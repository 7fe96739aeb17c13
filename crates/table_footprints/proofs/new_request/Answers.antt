use Rattle.table_footprints.specs.Cases.{seen_of}
use Rattle.table_footprints.proofs.Wanting.{planned}
use Rattle.table_footprints.proofs.new_request.Goals as goal

pub returns-in-Ok-recorded-clause-ok : goal.returns-in-Ok-recorded-clause-ok
returns-in-Ok-recorded-clause-ok c = planned (seen_of c.args.tree.now c.args.files.now c.args.counter) c.args.want c.in-Ok.reservation c.in-Ok-recorded.new_request c.in-Ok.ensures.ok c.in-Ok-recorded.ensures
