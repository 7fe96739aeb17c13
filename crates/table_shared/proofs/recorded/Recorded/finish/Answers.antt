use Rattle.std.proofs.Common.{arith}
use Rattle.table_steps.specs.Kept.{world_of}
use Rattle.table_shared.proofs.Listing.{finished_anew, gains_posted}
use Rattle.table_shared.proofs.recorded.Recorded.finish.Goals as goal

pub returns-clause-entries : goal.returns-clause-entries
returns-clause-entries g c =
    let f = c.finish-answered in
    let old = world_of c.self.inside.table in
    let new = world_of f.new.self in
    let lists = finished_anew old new c.args.ticket.id c.args.outcome f.result f.ensures.finishes in
    let gains = gains_posted old new c.args.share.now f.new.share f.ensures.gains in
    omega arith
