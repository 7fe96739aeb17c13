use Rattle.std.proofs.Common.{arith}
use Rattle.table_steps.specs.Kept.{world_of}
use Rattle.table_shared.proofs.Listing.{gains_posted, settled_anew}
use Rattle.table_shared.proofs.recorded.Recorded.settle.Goals as goal

pub returns-clause-entries : goal.returns-clause-entries
returns-clause-entries g c =
    let f = c.settle-settled in
    let old = world_of c.self.inside.table in
    let new = world_of f.new.self in
    let lists = settled_anew old new c.args.answered c.args.taken f.result f.ensures.settles in
    let gains = gains_posted old new c.args.share.now f.new.share f.ensures.gains in
    omega arith
