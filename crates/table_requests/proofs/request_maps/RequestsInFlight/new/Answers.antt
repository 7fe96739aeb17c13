use Rattle.std.proofs.Common.{refl, arith}
use Rattle.std.proofs.lemmas.Option.{none-some}
use Rattle.table_requests.proofs.request_maps.RequestsInFlight.new.Goals as goal

pub invariant_of-result : goal.invariant_of-result
invariant_of-result c = rw c.new-flights.ensures.items (record {
  apart = λ i j d before within. absurd (omega (arith, within));
  counted = c.no_pins.ensures;
  held = c.nothing_held.ensures;
  below = λ within id f there. absurd (none-some f there);
  nodes = refl;
  postings = refl;
  files = refl;
})
