use Rattle.shared_history.proofs.Moves.{meets}
use Rattle.shared_history.proofs.history.meet.Goals as goal

pub join_seat-requires : goal.join_seat-requires
join_seat-requires g c = (c.requires.whole_log, c.requires.thread, c.requires.slots, c.requires.words, meets c.args.seat.now.id c.args.seat.now.me.0 c.args.own.id c.args.own.me.0)
