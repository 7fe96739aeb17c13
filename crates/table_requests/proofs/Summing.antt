-- Sums over the requests in flight.
use Rattle.std.proofs.Common.{ℕ, List, sum_by}
use Rattle.collections.specs.Sum.{IsSum}
use Rattle.collections.proofs.Listing.{sum_listed}
use Rattle.table_requests.specs.declared.data.RequestInFlight.{RequestInFlight}
use Rattle.table_requests.specs.Listed.{HaveOwnIds, flight_in}

pub sum_of_flights : (fs : List RequestInFlight) (weight : RequestInFlight → ℕ) → HaveOwnIds fs → IsSum (flight_in fs) weight (sum_by weight fs)
sum_of_flights fs weight apart = sum_listed (λ (f : RequestInFlight). f.id) weight fs apart
