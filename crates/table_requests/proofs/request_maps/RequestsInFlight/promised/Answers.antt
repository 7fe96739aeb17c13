use Rattle.table_requests.proofs.Kept.{IsTallied_listed}
use Rattle.table_requests.proofs.request_maps.RequestsInFlight.promised.Goals as goal

pub returns-clause-tallied : goal.returns-clause-tallied
returns-clause-tallied c = IsTallied_listed c.self.inside.flights c.args.self.now c.self.invariant.apart c.self.view_is
