use Rattle.shared_history.proofs.Logs.{one_begins}
use Rattle.shared_history.proofs.history.History.compare.Goals as goal

pub returns-clause-order : goal.returns-clause-order
returns-clause-order g c =
    let p = c.observe.ensures.begins in
    let q = c.observe-2.ensures.begins in
    one_begins c.args.one.now.seen c.args.other.now.seen c.args.whole_log.now.log p (rw (← c.observe.ensures.whole_log) q)
