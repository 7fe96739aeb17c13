use Rattle.wire.proofs.Requests.{is_found, is_only, is_fault}
use Rattle.wire.proofs.decoding.decode.Goals as goal

pub returns-clause-found : goal.returns-clause-found
returns-clause-found c = is_found _ _ _ c.request_of.ensures

pub returns-clause-only : goal.returns-clause-only
returns-clause-only c = is_only _ _ _ c.request_of.ensures

pub returns-clause-fault : goal.returns-clause-fault
returns-clause-fault c = is_fault _ _ _ c.request_of.ensures
