use Rattle.std.proofs.Common.{arith}
use Rattle.handles.proofs.Counting.{comes}
use Rattle.handles.proofs.counts.Counts.take.Goals as goal

pub load_new_seat-seat-requires : goal.load_new_seat-seat-requires
load_new_seat-seat-requires c =
    let self = c.args.self.now in
    (omega (arith, self.words), comes self.table.shared.key self.table.shared.table_id.slots 0)
