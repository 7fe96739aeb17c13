use Rattle.std.proofs.Common.{rules}
use Rattle.table_requests.proofs.CountedPins.{taken_pins}
use Rattle.table_requests.proofs.Lookups.{alive_at}
use Rattle.table_requests.proofs.Stepping.{Goes_taken, below_taken, taken_apart}
use Rattle.table_requests.proofs.CountedHolds.{holders_taken}
use Rattle.table_requests.proofs.listed.take_answered.Goals as goal

pub returns-clause-some : goal.returns-clause-some
returns-clause-some c =
    let found = rw c.as_slice.ensures.value at c.in_ok-i.ensures.found in
    Goes_taken c.args.flights.now.items c.in_ok-i.i c.args.id (search rules) found c.take_at.new.flights.items _ _ c.take_at.result c.requires c.take_at.ensures.answered c.take_at.ensures.pins c.take_at.ensures.items

pub returns-clause-apart : goal.returns-clause-apart
returns-clause-apart c =
    taken_apart c.args.flights.now.items c.take_at.new.flights.items c.in_ok-i.i (search rules) c.take_at.result c.requires c.take_at.ensures.same c.take_at.ensures.items

pub returns-clause-pinned : goal.returns-clause-pinned
returns-clause-pinned c =
    let fs = c.args.flights.now.items in
    let within = rw c.as_slice.ensures.value at c.in_ok-i.ensures.within in
    let found = rw c.as_slice.ensures.value at c.in_ok-i.ensures.found in
    taken_pins fs c.take_at.new.flights.items c.in_ok-i.i (alive_at fs c.in_ok-i.i c.args.id within found).0 within c.take_at.result c.take_at.ensures.pins c.take_at.ensures.items

pub returns-clause-below : goal.returns-clause-below
returns-clause-below c =
    let within = rw c.as_slice.ensures.value at c.in_ok-i.ensures.within in
    let found = rw c.as_slice.ensures.value at c.in_ok-i.ensures.found in
    below_taken c.args.flights.now.items c.in_ok-i.i c.args.id within found c.take_at.new.flights.items c.take_at.result c.requires c.take_at.ensures.same c.take_at.ensures.items

pub returns-clause-held : goal.returns-clause-held
returns-clause-held c =
    let fs = c.args.flights.now.items in
    let within = rw c.as_slice.ensures.value at c.in_ok-i.ensures.within in
    let found = rw c.as_slice.ensures.value at c.in_ok-i.ensures.found in
    holders_taken fs c.take_at.new.flights.items c.in_ok-i.i within c.take_at.result c.take_at.ensures.same c.take_at.ensures.answered c.take_at.ensures.items (alive_at fs c.in_ok-i.i c.args.id within found).0
