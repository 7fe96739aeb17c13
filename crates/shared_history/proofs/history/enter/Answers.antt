use Rattle.shared_history.proofs.Moves.{enters}
use Rattle.shared_history.proofs.history.enter.Goals as goal

pub split_seat-requires : goal.split_seat-requires
split_seat-requires g c = (c.requires.table, c.requires.words, enters c.args.seat.now.id c.args.seat.now.me.0 c.requires.keeps)
