use Rattle.table_requests.proofs.Kept.{IsFlying_kept}
use Rattle.table_requests.proofs.request_maps.RequestsInFlight.reserve.Goals as goal

pub returns-clause-law : goal.returns-clause-law
returns-clause-law c = IsFlying_kept c.reserve.new.self (rw c.reserve.ensures.items c.self.invariant.apart)
