use Rattle.table_steps.specs.Kept.{world_of}
use Rattle.engine.proofs.Removing.{left_removed}
use Rattle.engine.proofs.serving.remove_leftovers.Goals as goal

pub returns : goal.returns
returns g c = left_removed g.C.Calls.gives (world_of c.args.table.now) c.args.calls.now c.remove_listed.new.calls c.leftover.result c.leftover.ensures c.remove_listed.ensures.listed c.remove_listed.ensures.unlisted
