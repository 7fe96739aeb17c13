use Rattle.std.proofs.Common.{true, false, arith}
use Rattle.table_requests.proofs.CountedPins.{not_pinned, pinned_if_counted, pinned_there}
use Rattle.table_requests.proofs.request_maps.RequestsInFlight.pins.Goals as goal

pub returns-then-count_of-gt0-clause-pinned : goal.returns-then-count_of-gt0-clause-pinned
returns-then-count_of-gt0-clause-pinned c =
    let it = c.self.inside in
    pinned_there it.flights c.args.self.now c.self.view_is c.args.number true (pinned_if_counted it.flights.items it.pinned c.self.invariant.counted c.args.number (omega (arith, c.if-count_of-gt0.true, c.count_of.ensures)))

pub returns-then-self-eq0-clause-pinned : goal.returns-then-self-eq0-clause-pinned
returns-then-self-eq0-clause-pinned c =
    let it = c.self.inside in
    pinned_there it.flights c.args.self.now c.self.view_is c.args.number false (not_pinned it.flights.items it.pinned c.self.invariant.counted c.args.number (omega (arith, c.if-count_of-gt0.false, c.count_of.ensures)) c.if-self-eq0.true)
