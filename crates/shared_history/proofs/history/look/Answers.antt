use Rattle.std.proofs.Common.{[]}
use Rattle.shared_history.proofs.Moves.{adds}
use Rattle.shared_history.proofs.history.look.Goals as goal

pub load-requires : goal.load-requires
load-requires g c = (c.requires.table, c.requires.words, adds c.args.shared.now.table_id.slots c.args.seat.now.id 0 c.args.seat.now.me [] c.requires.both.0 c.requires.both.1)
