use Rattle.std.proofs.Common.{◌<◌, length, arith, sym, ap, ◌∙◌}
use Rattle.std.proofs.lemmas.Option.{slice_get-get_or}
use Rattle.table_requests.specs.declared.data.RequestInFlight.{RequestInFlight}
use Rattle.table_requests.proofs.Lookups.{flight_in-drop_found, flight_in-drop_more}
use Rattle.table_requests.proofs.listed.walk_to.Goals as goal

pub returns-then-flight-id-clause-found : goal.returns-then-flight-id-clause-found
returns-then-flight-id-clause-found c =
    let f = c.index-flights-i.result in
    let within : c.loop-i.i < length c.args.flights.now = omega arith in
    let same = ap (λ (g : RequestInFlight). g.id) (sym c.index-flights-i.is) ∙ c.if-flight-id.true in
    slice_get-get_or _ _ f within ∙ sym (c.loop-i.invariant ∙ flight_in-drop_found _ _ f _ within same)

pub loop-i-preserved : goal.loop-i-preserved
loop-i-preserved c =
    let f = c.index-flights-i.result in
    let within : c.loop-i.i < length c.args.flights.now = omega arith in
    c.loop-i.invariant ∙ flight_in-drop_more _ _ f _ within (λ e. c.if-flight-id.false (ap (λ (g : RequestInFlight). g.id) c.index-flights-i.is ∙ e))
