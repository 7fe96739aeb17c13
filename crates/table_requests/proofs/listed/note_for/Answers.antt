use Rattle.std.proofs.Common.{refl, rules}
use Rattle.table_requests.specs.RequestMaps.{opening}
use Rattle.table_requests.proofs.CountedPins.{pins_in-opening}
use Rattle.table_requests.proofs.Lookups.{alive_at}
use Rattle.table_requests.proofs.Stepping.{Notes-listed, below_changed}
use Rattle.table_requests.proofs.CountedHolds.{holders_opening}
use Rattle.table_requests.proofs.listed.note_for.Goals as goal

pub returns-clause-notes : goal.returns-clause-notes
returns-clause-notes c f there =
    let found = rw c.as_slice.ensures.value at c.in-Some.ensures.found in
    Notes-listed c.args.flights.now.items c.in-Some.i c.args.id (search rules) found c.note_at.new.flights.items _ _ c.args.handle f c.requires.apart there c.note_at.ensures.items

pub returns-clause-pinned : goal.returns-clause-pinned
returns-clause-pinned c =
    let fs = c.args.flights.now.items in
    let within = rw c.as_slice.ensures.value at c.in-Some.ensures.within in
    let found = rw c.as_slice.ensures.value at c.in-Some.ensures.found in
    pins_in-opening fs c.note_at.new.flights.items c.in-Some.i c.args.handle within c.note_at.ensures.items (alive_at fs c.in-Some.i c.args.id within found).0

pub returns-clause-below : goal.returns-clause-below
returns-clause-below c =
    let within = rw c.as_slice.ensures.value at c.in-Some.ensures.within in
    let found = rw c.as_slice.ensures.value at c.in-Some.ensures.found in
    below_changed c.args.flights.now.items c.in-Some.i c.args.id within found c.note_at.new.flights.items (λ f. opening f c.args.handle) (λ f. refl) c.note_at.ensures.items c.requires.apart

pub returns-clause-held : goal.returns-clause-held
returns-clause-held c =
    let fs = c.args.flights.now.items in
    let within = rw c.as_slice.ensures.value at c.in-Some.ensures.within in
    let found = rw c.as_slice.ensures.value at c.in-Some.ensures.found in
    holders_opening fs c.note_at.new.flights.items c.in-Some.i c.args.handle within c.note_at.ensures.items (alive_at fs c.in-Some.i c.args.id within found).0
