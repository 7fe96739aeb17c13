use Rattle.std.proofs.Common.{◌≡◌, List, take, arith, subst}
use Rattle.std.proofs.lemmas.List.{take_all}
use Rattle.table_requests.specs.declared.data.RequestInFlight.{RequestInFlight}
use Rattle.table.proofs.Holders.{AreCovered, covered_more, counts_all, shared_by_some, owned_by_some}
use Rattle.table.proofs.export.copy_holds.Goals as goal

pub add_held-requires-clause-shared : goal.add_held-requires-clause-shared
add_held-requires-clause-shared c =
    shared_by_some c.as_slice-flight-items.result.now c.args.flights.now c.loop-flight.flight-index c.flight-item.result
    c.as_slice-flight-items.ensures.apart c.as_slice-flight-items.ensures.at c.as_slice-flight-items.ensures.many c.loop-flight-test.true c.flight-item.is

pub add_held-requires-clause-exclusive : goal.add_held-requires-clause-exclusive
add_held-requires-clause-exclusive c =
    owned_by_some c.as_slice-flight-items.result.now c.args.flights.now c.loop-flight.flight-index c.flight-item.result
    c.as_slice-flight-items.ensures.apart c.as_slice-flight-items.ensures.at c.as_slice-flight-items.ensures.many c.loop-flight-test.true c.flight-item.is

pub loop-flight-preserved : goal.loop-flight-preserved
loop-flight-preserved c = record {
  lists = c.in_ok-add_held.ensures.lists;
  covered = covered_more c.loop-flight.holds.items c.add_held.new.holds.items c.as_slice-flight-items.result.now c.loop-flight.flight-index c.flight-item.result
      c.loop-flight-test.true c.flight-item.is c.in_ok-add_held.ensures.shared c.in_ok-add_held.ensures.exclusive c.loop-flight.invariant.covered;
}

pub returns : goal.returns
returns c =
    let fs = c.as_slice-flight-items.result.now in
    let all : take c.loop-flight.flight-index fs ≡ fs = take_all c.loop-flight.flight-index fs (omega arith) in
    counts_all fs c.args.flights.now c.loop-flight.holds.items c.as_slice-flight-items.ensures.apart c.as_slice-flight-items.ensures.at c.as_slice-flight-items.ensures.many
    (subst (λ (gs : List RequestInFlight). AreCovered c.loop-flight.holds.items gs) all c.loop-flight.invariant.covered) c.loop-flight.invariant.lists
