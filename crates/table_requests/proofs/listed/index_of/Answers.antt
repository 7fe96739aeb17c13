use Rattle.std.proofs.Common.{◌<◌, ◌≡◌, length, get_or, sym, ap, ◌∙◌}
use Rattle.std.proofs.lemmas.Option.{slice_get-get_or}
use Rattle.table_requests.specs.Listed.{flight_in}
use Rattle.table_requests.proofs.Lookups.{flight_in_found}
use Rattle.table_requests.proofs.listed.index_of.Goals as goal

pub returns-then-flights-i-clause-found : goal.returns-then-flights-i-clause-found
returns-then-flights-i-clause-found c =
    let fs = c.args.flights.now in
    let i = c.partition_point-i.result in
    let f = c.index-flights-i.result in
    let within : i < length fs = c.if-i-flights.true in
    let same : (get_or fs i f).id ≡ c.args.id = c.if-flights-i.true in
    slice_get-get_or fs i f within ∙ (sym (flight_in_found fs i f c.requires within) ∙ ap (flight_in fs) same)
