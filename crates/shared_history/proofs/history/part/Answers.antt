use Rattle.shared_history.proofs.Moves.{parts}
use Rattle.shared_history.proofs.history.part.Goals as goal

pub split_seat-requires : goal.split_seat-requires
split_seat-requires g c = (c.requires.table, c.requires.words, parts c.args.seat.now.id c.args.seat.now.me.0 c.requires.both.0 c.requires.both.1)
