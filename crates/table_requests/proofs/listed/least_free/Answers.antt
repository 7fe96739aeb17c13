use Rattle.std.proofs.Common.{arith, rules}
use Rattle.table_requests.proofs.Lookups.{taken_bound, taken_here, taken_more}
use Rattle.table_requests.proofs.listed.least_free.Goals as goal

pub overflow_add-id : goal.overflow_add-id
overflow_add-id c = omega (arith, taken_bound c.loop-place.id c.args.flights.now c.requires.apart c.loop-place.invariant, c.requires.short)

pub loop-place-smaller : goal.loop-place-smaller
loop-place-smaller c = omega (arith, taken_bound c.loop-place.id c.args.flights.now c.requires.apart c.loop-place.invariant)

pub loop-place-preserved : goal.loop-place-preserved
loop-place-preserved c = taken_more c.args.flights.now c.loop-place.id c.loop-place.invariant (taken_here c.args.flights.now c.in-Some._place c.loop-place.id (search rules) (search rules))
