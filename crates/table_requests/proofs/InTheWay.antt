-- Whether some request in a list conflicts, and the same by ids.
use Rattle.std.proofs.Common.{ℕ, ◌<◌, List, length, get_or}
use Rattle.paths.specs.Prefixes.{Names}
use Rattle.holds.specs.declared.held.Held.{Held}
use Rattle.table_requests.specs.declared.data.RequestInFlight.{RequestInFlight}
use Rattle.table_requests.specs.RequestMaps.{HoldsUp, IsInTheWay, HasExclusiveHolder, HoldsExclusively}
use Rattle.table_requests.specs.Listed.{flight_in, HaveOwnIds}
use Rattle.table_requests.proofs.Lookups.{flight_in_found}

pub held_up_at : (fs : List RequestInFlight) (i : ℕ) (d : RequestInFlight) (wanted : Held) → HaveOwnIds fs → i < length fs → IsInTheWay (get_or fs i d).stage wanted → HoldsUp (flight_in fs) wanted
held_up_at fs i d wanted apart within conflict = record { id = (get_or fs i d).id; flight = get_or fs i d; here = flight_in_found fs i d apart within; conflict = conflict }

pub owned_at : (fs : List RequestInFlight) (i : ℕ) (d : RequestInFlight) (path : Names) → HaveOwnIds fs → i < length fs → HoldsExclusively (get_or fs i d).stage path → HasExclusiveHolder (flight_in fs) path
owned_at fs i d path apart within exclusive = record { id = (get_or fs i d).id; flight = get_or fs i d; here = flight_in_found fs i d apart within; exclusive = exclusive }
