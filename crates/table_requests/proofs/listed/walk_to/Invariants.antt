use Rattle.std.proofs.Common.{◌≡◌, drop}
use Rattle.table_requests.specs.Listed.{flight_in}
use Rattle.table_requests.proofs.listed.walk_to.Given as goal

abbrev pub invariant-loop-i : goal.invariant-loop-i
invariant-loop-i l = flight_in l.flights l.id ≡ flight_in (drop l.i l.flights) l.id
