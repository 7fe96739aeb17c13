use Rattle.std.proofs.Common.{arith}
use Rattle.handles.proofs.Counting.{lowers}
use Rattle.handles.proofs.counts.Counts.lower.Goals as goal

pub fetch_sub-requires : goal.fetch_sub-requires
fetch_sub-requires c =
    let self = c.args.self.now in
    (c.requires.table, omega (arith, self.words, c.requires.word), lowers self.table.shared.key self.table.shared.table_id.slots c.args.word c.args.seat.now.id c.args.less c.args.seat.now.me c.requires.word c.requires.less)
