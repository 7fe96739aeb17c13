use Rattle.std.proofs.Common.{ℕ, ◌≡◌, ◌<◌, ◌+◌, ◌-◌, None, length}
use Rattle.table_requests.specs.Listed.{flight_in}
use Rattle.table_requests.proofs.listed.least_free.Given as goal

abbrev pub invariant-loop-place : goal.invariant-loop-place
invariant-loop-place l = (k : ℕ) → k < l.id → flight_in l.flights k ≡ None → ⊥

abbrev pub decreases-loop-place : goal.decreases-loop-place
decreases-loop-place l = length l.flights + 1 - l.id
