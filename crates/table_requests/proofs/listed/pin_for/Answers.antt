use Rattle.std.proofs.Common.{refl, rules}
use Rattle.table_requests.specs.RequestMaps.{pinning}
use Rattle.table_requests.proofs.CountedPins.{pins_in-pinning}
use Rattle.table_requests.proofs.Lookups.{alive_at}
use Rattle.table_requests.proofs.Stepping.{PinsMore-listed, below_changed}
use Rattle.table_requests.proofs.CountedHolds.{holders_pinning}
use Rattle.table_requests.proofs.listed.pin_for.Goals as goal

pub returns-clause-pins : goal.returns-clause-pins
returns-clause-pins c f there =
    let found = rw c.as_slice.ensures.value at c.in-Some.ensures.found in
    PinsMore-listed c.args.flights.now.items c.in-Some.i c.args.id (search rules) found c.pin_at.new.flights.items _ _ c.args.number f c.requires.apart there c.pin_at.ensures.items

pub returns-clause-pinned : goal.returns-clause-pinned
returns-clause-pinned c =
    let fs = c.args.flights.now.items in
    let within = rw c.as_slice.ensures.value at c.in-Some.ensures.within in
    let found = rw c.as_slice.ensures.value at c.in-Some.ensures.found in
    pins_in-pinning fs c.pin_at.new.flights.items c.in-Some.i c.args.number within c.pin_at.ensures.items (alive_at fs c.in-Some.i c.args.id within found).0

pub returns-clause-below : goal.returns-clause-below
returns-clause-below c =
    let within = rw c.as_slice.ensures.value at c.in-Some.ensures.within in
    let found = rw c.as_slice.ensures.value at c.in-Some.ensures.found in
    below_changed c.args.flights.now.items c.in-Some.i c.args.id within found c.pin_at.new.flights.items (λ f. pinning f c.args.number) (λ f. refl) c.pin_at.ensures.items c.requires.apart

pub returns-clause-held : goal.returns-clause-held
returns-clause-held c =
    let fs = c.args.flights.now.items in
    let within = rw c.as_slice.ensures.value at c.in-Some.ensures.within in
    let found = rw c.as_slice.ensures.value at c.in-Some.ensures.found in
    holders_pinning fs c.pin_at.new.flights.items c.in-Some.i c.args.number within c.pin_at.ensures.items (alive_at fs c.in-Some.i c.args.id within found).0
