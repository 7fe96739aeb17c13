use Rattle.std.proofs.Common.{rules}
use Rattle.table_requests.proofs.CountedPins.{pins_ended}
use Rattle.table_requests.proofs.Lookups.{alive_at}
use Rattle.table_requests.proofs.Stepping.{Answers_ended, apart_ended, below_ended}
use Rattle.table_requests.proofs.CountedHolds.{holder_lost}
use Rattle.table_requests.proofs.listed.end_work.Goals as goal

pub returns-clause-some : goal.returns-clause-some
returns-clause-some c =
    let found = rw c.as_slice.ensures.value at c.in_ok-i.ensures.found in
    Answers_ended c.args.flights.now.items c.in_ok-i.i c.args.id (search rules) found c.end_work_at.new.flights.items _ _ c.end_work_at.result c.requires c.end_work_at.ensures.some c.end_work_at.ensures.items

pub returns-clause-apart : goal.returns-clause-apart
returns-clause-apart c =
    let found = rw c.as_slice.ensures.value at c.in_ok-i.ensures.found in
    apart_ended c.args.flights.now.items c.in_ok-i.i c.args.id (search rules) found c.end_work_at.new.flights.items c.end_work_at.result c.end_work_at.ensures.same c.end_work_at.ensures.items c.requires

pub returns-clause-pinned : goal.returns-clause-pinned
returns-clause-pinned c =
    let fs = c.args.flights.now.items in
    let within = rw c.as_slice.ensures.value at c.in_ok-i.ensures.within in
    let found = rw c.as_slice.ensures.value at c.in_ok-i.ensures.found in
    pins_ended fs c.end_work_at.new.flights.items c.in_ok-i.i within c.end_work_at.result c.end_work_at.ensures.same c.end_work_at.ensures.items (alive_at fs c.in_ok-i.i c.args.id within found).0

pub returns-clause-below : goal.returns-clause-below
returns-clause-below c =
    let within = rw c.as_slice.ensures.value at c.in_ok-i.ensures.within in
    let found = rw c.as_slice.ensures.value at c.in_ok-i.ensures.found in
    below_ended c.args.flights.now.items c.in_ok-i.i c.args.id within found c.end_work_at.new.flights.items c.end_work_at.result c.end_work_at.ensures.same c.end_work_at.ensures.items c.requires

pub returns-clause-held : goal.returns-clause-held
returns-clause-held c =
    let fs = c.args.flights.now.items in
    let within = rw c.as_slice.ensures.value at c.in_ok-i.ensures.within in
    let found = rw c.as_slice.ensures.value at c.in_ok-i.ensures.found in
    let answers = Answers_ended fs c.in_ok-i.i c.args.id within found c.end_work_at.new.flights.items 0 0 c.end_work_at.result c.requires c.end_work_at.ensures.some c.end_work_at.ensures.items in
    holder_lost fs c.end_work_at.new.flights.items c.in_ok-i.i c.args.id 0 0 within c.end_work_at.result c.end_work_at.ensures.some c.end_work_at.ensures.items answers (alive_at fs c.in_ok-i.i c.args.id within found).0
